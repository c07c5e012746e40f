-- The kinds of records and their numbers: "Kind 1 sign-on", "Kind 2 report", "Kind 3 sign-off", "Kind 4 range".
use Rattle.std.specs.Prelude.{◌≡◌, ℕ, Result, MatchResult, None}
use Rattle.terms.specs.declared.Refusal.{Refusal}
use Rattle.terms.specs.declared.Refusal.TheVariants.{UnknownKind}
use Rattle.rules.specs.Records.{kind_sign_on, kind_report, kind_sign_off, kind_range, length_of}
use Rattle.records.specs.declared.Kind.{Kind}
use Rattle.records.specs.declared.Kind.TheVariants.{SignOn, Report, SignOff, Range}

abbrev pub kind_number : Kind → ℕ
kind_number SignOn = kind_sign_on
kind_number Report = kind_report
kind_number SignOff = kind_sign_off
kind_number Range = kind_range

-- the kind with this number; no other has a length
abbrev pub Decodes : ℕ → Result Kind Refusal → Type 0
Decodes number r = MatchResult r (λ kind. kind_number kind ≡ number) (λ e. (e ≡ UnknownKind) × (length_of number ≡ None))
