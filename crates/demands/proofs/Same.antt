-- Two desks fed the same calls are alike: each call finds the same desk and pages, and its contract lets it answer and leave one thing only.
use mathlib.Core.List.{List, ◌∷◌}
use mathlib.Core.Path.{◌≡◌, refl, sym, ap, ap₂, subst}
use Prim.Native.Nat.{ℕ}
use native.Mathlib.Omega.{arith}
use Rattle.rules.specs.Plain.{Plain}
use Rattle.desk.specs.declared.Desk.{Desk}
use Rattle.desk.specs.Call.{Before, After, Answers}
use Rattle.desk.proofs.CallLaws.{answers_once}
use Rattle.demands.specs.Trace.{Trace, begun, called}
use Rattle.demands.specs.Same.{Fed, calls_of, Alike, SameDesks}

alike : {d e : Desk} {b c : List ℕ} {x z : Plain} (t : Trace d b x) (u : Trace e c z) → calls_of t ≡ calls_of u → Alike t u
alike begun begun q = record { answers = refl; desk = refl; pages = refl }
alike begun (called u call buffer y small a) q = let n : ◌≡◌ {A = ℕ} 0 1 = cc in absurd (omega arith)
alike (called t call buffer y small a) begun q = let n : ◌≡◌ {A = ℕ} 0 1 = cc in absurd (omega arith)
alike (called {d = d} {b = b} t call buffer y small a) (called {d = e} {b = c} u call' buffer' z small' a') q =
    let fed : ◌≡◌ {A = Fed} (record { call = call; buffer = buffer }) (record { call = call'; buffer = buffer' }) = cc in
    let earlier : calls_of t ≡ calls_of u = cc in
    let k = alike t u earlier in
    let same : ◌≡◌ {A = Before} (record { desk = e; pages = c; call = call'; buffer = buffer' }) (record { desk = d; pages = b; call = call; buffer = buffer }) =
    sym (λ i. record { desk = k.desk i; pages = k.pages i; call = (fed i).call; buffer = (fed i).buffer }) in
    let one : y ≡ z = answers_once a (subst (λ (w : Before). Answers w z) same a') in
    record { answers = ap₂ ◌∷◌ one k.answers; desk = ap (λ (w : After). w.desk) one; pages = ap (λ (w : After). w.pages) one }

pub same_desks : SameDesks
same_desks d e b c x z t u = alike t u
