use mathlib.Core.Path.{refl}
use Rattle.csv_order.specs.Table.{listed_of}
use Rattle.spreadsheet_read.proofs.SigningLaws.{Holds-signed}
use Rattle.spreadsheet_read.proofs.sign_on.Goals as goal

pub returns : goal.returns
returns c = λ w fits h. Holds-signed h (listed_of c.args.x) fits _ _ _ c.write_record.ensures refl c.carry_sound.ensures
