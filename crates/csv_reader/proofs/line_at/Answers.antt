-- The four fields that the readers hand out, one after the other, are those of the line at the place where the first of them stands.
use Rattle.std.proofs.Common.{◌≡◌, ◌∙◌, ap, subst, sym, List, ℕ, drop, Bor}
use Rattle.csv_grammar.specs.Csv.{line}
use Rattle.csv_reader.specs.Reading.{HandsOut, place_behind, line_from, Tells}
use Rattle.csv_reader.specs.declared.Reader.{Reader}
use Rattle.csv_reader.specs.declared.Field.{Field}
use Rattle.csv_reader.specs.declared.Line.{Line}
use Rattle.std.specs.Prelude.{Option}
use Rattle.csv_reader.proofs.LineLaws.{line_handed}
use Rattle.csv_reader.proofs.line_at.Goals as goal

-- ---- where a reader stands, and what four that follow one another hand out

abbrev At : Bor (List ℕ) → ℕ → Reader → Type 0
At s n r = (r.file ≡ s) × (r.at ≡ n)

abbrev Hands : Reader → Option Field → Type 0
Hands r f = HandsOut r.file.now r.at f

handed : {s : Bor (List ℕ)} {n : ℕ} (r : Reader) {f : Option Field} → At s n r → Hands r f → HandsOut s.now n f
handed {s} {n} r {f} e h = subst (λ (y : Bor (List ℕ)). HandsOut y.now n f) e.0 (subst (λ (k : ℕ). HandsOut r.file.now k f) e.1 h)

on : {s : Bor (List ℕ)} {n : ℕ} (r : Reader) (f : Option Field) {r' : Reader} → At s n r → At r.file (place_behind f r.at) r' → At s (place_behind f n) r'
on r f e e' = (e'.0 ∙ e.0, e'.1 ∙ ap (place_behind f) e.1)

told : {s : Bor (List ℕ)} {n : ℕ} {r₁ r₂ r₃ r₄ : Reader} {f₁ f₂ f₃ f₄ : Option Field} {l : Option Line} → At s n r₁ → Hands r₁ f₁ → At r₁.file (place_behind f₁ r₁.at) r₂ → Hands r₂ f₂ → At r₂.file (place_behind f₂ r₂.at) r₃ → Hands r₃ f₃
    → At r₃.file (place_behind f₃ r₃.at) r₄ → Hands r₄ f₄ → l ≡ line_from f₁ f₂ f₃ f₄ → Tells s.now n (line (drop n s.now)) l
told {s} {n} {r₁} {r₂} {r₃} {r₄} {f₁} {f₂} {f₃} {f₄} e₁ h₁ e₂ h₂ e₃ h₃ e₄ h₄ e =
    let at₂ = on r₁ f₁ e₁ e₂ in
    let at₃ = on r₂ f₂ at₂ e₃ in
    let at₄ = on r₃ f₃ at₃ e₄ in
    subst (λ (x : Option Line). Tells s.now n (line (drop n s.now)) x) (sym e) (line_handed (handed r₁ e₁ h₁) (handed r₂ at₂ h₂) (handed r₃ at₃ h₃) (handed r₄ at₄ h₄))

pub returns : goal.returns
returns c =
    told c.new-first.ensures c.next-radio.ensures c.behind-second.ensures c.next-east.ensures c.behind-third.ensures c.next-north.ensures
    c.behind-fourth.ensures c.next-minute.ensures c.line_of.ensures
