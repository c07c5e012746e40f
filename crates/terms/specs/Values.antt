-- A place and a fix as the code holds them.
use Rattle.terms.specs.Terms.{Place, Fix}
use Rattle.terms.specs.declared.Place.{Place as HeldPlace}
use Rattle.terms.specs.declared.Fix.{Fix as HeldFix}

abbrev pub place_of : HeldPlace → Place
place_of p = record { east = p.east; north = p.north }

abbrev pub fix_of : HeldFix → Fix
fix_of f = record { place = place_of f.place; minute = f.minute }
