-- What reads bring, one after the other, and that a record's length stays when more is read behind it.
use Rattle.std.proofs.Common.{List, Option, Some, None, [], ◌++◌, ◌≡◌, ℕ, ◌+◌, refl, sym, ◌∙◌, ap, append_assoc, take, length, ◌≤◌, ◌-◌, Result, Ok, Err, IfOk, arith, subst}
use Rattle.std.specs.Io.KnownBytes.{Consumes, Keeps, ReadConsumes}
use Rattle.std.proofs.Math.Seq.{take-append-add}
use Rattle.std.proofs.lemmas.List.{length-take-le, length-append, take-append-le, append-nil}
use Rattle.std.specs.Counts.{IsPrefixLen}
use borrow.Rule.Slice.PartMut.{put_mid, post_of}
use Rattle.lists.proofs.WordsLaws.{word-append-le}
use Rattle.rules.specs.Records.{length_field}
use Rattle.journal_input.specs.declared.Source.{Source}
use Rattle.journal_input.specs.declared.Source.TheVariants.{Open}
use Rattle.journal_input.specs.Input.{Brings, WholeRecord}

pub consumes_none : (known : Option (List ℕ)) → Consumes known known []
consumes_none None = tt
consumes_none (Some xs) = refl

pub consumes_kept : (known known' : Option (List ℕ)) → Keeps known known' → Consumes known known' []
consumes_kept None known' k = tt
consumes_kept (Some xs) None k = k
consumes_kept (Some xs) (Some ys) k = sym k

pub consumes_then : (k k' k'' : Option (List ℕ)) (xs ys : List ℕ) → Consumes k k' xs → Consumes k' k'' ys → Consumes k k'' (xs ++ ys)
consumes_then None k' k'' xs ys a b = tt
consumes_then (Some us) None k'' xs ys a b = absurd a
consumes_then (Some us) (Some vs) None xs ys a b = b
consumes_then (Some us) (Some vs) (Some ws) xs ys a b = a ∙ ap (λ w. xs ++ w) b ∙ sym (append_assoc xs ys ws)

pub brings_none : (known : Option (List ℕ)) (hand : List ℕ) → Brings known known hand hand
brings_none known hand = record { more = []; appended = sym (append-nil hand); consumed = consumes_none known }

pub brings_kept : (known known' : Option (List ℕ)) (a b : List ℕ) → Keeps known known' → b ≡ a → Brings known known' a b
brings_kept known known' a b k e = record { more = []; appended = e ∙ sym (append-nil a); consumed = consumes_kept known known' k }

pub brings_then : (k k' k'' : Option (List ℕ)) (a b c : List ℕ) → Brings k k' a b → Brings k' k'' b c → Brings k k'' a c
brings_then k k' k'' a b c x y = record {
  more = x.more ++ y.more;
  appended = y.appended ∙ ap (λ w. w ++ y.more) x.appended ∙ append_assoc a x.more y.more;
  consumed = consumes_then k k' k'' x.more y.more x.consumed y.consumed;
}

take_more : (xs ys rest : List ℕ) (at n : ℕ) → at ≤ length xs → n ≤ length ys → take (at + n) (take at xs ++ (ys ++ rest)) ≡ take at xs ++ take n ys
take_more xs ys rest at n a b =
    let e : length (take at xs) ≡ at = length-take-le at xs a in
    let P : ℕ → Type 0 = λ k. take (k + n) (take at xs ++ (ys ++ rest)) ≡ take at xs ++ take n ys in
    subst P e (take-append-add (take at xs) (ys ++ rest) n ∙ ap (λ w. take at xs ++ w) (take-append-le n ys rest b))

-- one read into the window from `at` on
pub brings_read : {E : Type 0} (known known' : Option (List ℕ)) (at : ℕ) (old buf : List ℕ) (r : Result ℕ E) → at ≤ length old → IfOk r (λ n. IsPrefixLen n buf) → ReadConsumes known known' r buf
    → IfOk r (λ n. Brings known known' (take at old) (take (at + n) (put_mid at (length old - at) old buf)))
brings_read known known' at old buf (Ok n) le within k =
    record { more = take n buf; appended = take_more old buf (post_of at (length old - at) old) at n le (omega arith); consumed = k.0 }
brings_read known known' at old buf (Err e) le within k = tt

-- a record's length is the same when more is read behind it
pub length_behind : (known known' : Option (List ℕ)) (mid after : List ℕ) → 4 ≤ length mid → Brings known known' mid after → length_field after ≡ length_field mid
unfolding length_field
length_behind known known' mid after long b = ap length_field b.appended ∙ word-append-le 2 mid b.more 0 (omega arith)

-- so many bytes as its length says make it whole
pub whole_behind : {E : Type 0} (known known' : Option (List ℕ)) (mid after : List ℕ) (n : ℕ) (r : Result Source E) → 4 ≤ length mid → n ≡ length_field mid
    → Brings known known' mid after → IfOk r (λ source. source ≡ Open → n ≤ length after) → IfOk r (λ source. source ≡ Open → WholeRecord after)
whole_behind known known' mid after n (Ok source) long e b enough =
    λ o. (omega (arith, long, ap length b.appended, length-append mid b.more), omega (arith, length_behind known known' mid after long b, e, enough o))
whole_behind known known' mid after n (Err e) long is b enough = tt
