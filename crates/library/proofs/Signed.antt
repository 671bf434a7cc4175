-- A signature with one parameter more, and signatures that are equal place by place.
use Rattle.std.proofs.Common.{◌≡◌, ℕ, suc, ◌+◌, ◌-◌, ◌<◌, Bool, ◌==◌, ◌&&◌, List, [], ◌∷◌, ◌++◌, length, set, replicate, Decides, refl, ap, arith}
use Rattle.std.specs.Cmp.Lexicographic.{pointwise}
use Rattle.std.proofs.lemmas.Bool.Decides.{Decides-at, Decides-like, Decides-and, Decides-eqb}
use Rattle.std.proofs.lemmas.List.{append_assoc, length_push, set_at}
use Rattle.std.proofs.lemmas.Slice.Eq.{slice_eq-Decides}
use Rattle.values.specs.declared.types.«Type».{«Type» as Ty}
use Rattle.values.specs.declared.types.«Type».TheVariants.{Void}
use Rattle.library.specs.declared.definition.Signature.{Signature}
use Rattle.library.specs.Signatures.{signature}

one_blank : (n m : ℕ) → m ≡ suc n → replicate m Void ≡ Void ∷ replicate n Void
one_blank n m e = ap (λ k. replicate k Void) e

pub signature_more : (s : Signature) (ts : List Ty) (t : Ty) → s.count < 8 → s ≡ signature ts → record { count = s.count + 1; types = set s.types s.count t } ≡ signature (ts ++ t ∷ [])
signature_more s ts t h e =
    let n = length ts in
    let c : s.count ≡ n = ap (λ z. z.count) e in
    let y : s.types ≡ ts ++ replicate (8 - n) Void = ap (λ z. z.types) e in
    let b = one_blank (8 - (n + 1)) (8 - n) (omega arith) in
    let u : set (ts ++ Void ∷ replicate (8 - (n + 1)) Void) n t ≡ ts ++ t ∷ replicate (8 - (n + 1)) Void = set_at ts Void (replicate (8 - (n + 1)) Void) t n (omega arith) in
    let a = append_assoc ts (t ∷ []) (replicate (8 - (n + 1)) Void) in
    let l = length_push ts t in
    cc

-- signatures are equal where their counts are and their types are, place by place
pub signature_same : {E : Ty → Ty → Bool} → (s r : Signature) (b : Bool) → b ≡ ((s.count == r.count) && pointwise E s.types r.types) → ((t u : Ty) → Decides (E t u) (t ≡ u)) → Decides b (s ≡ r)
signature_same s r b e h =
    Decides-at b _ e (Decides-like _
    (λ (p : (s.count ≡ r.count) × (s.types ≡ r.types)). λ i. record { count = p.0 i; types = p.1 i })
    (λ p. (ap (λ z. z.count) p, ap (λ z. z.types) p))
    (Decides-and _ _ (Decides-eqb s.count r.count) (slice_eq-Decides h s.types r.types _ refl)))
