-- The fields and the methods of a class, one behind the other.
use Rattle.std.proofs.Common.{◌≡◌, ℕ, ◌-◌, List, [], ◌∷◌, ◌++◌, length, Some, None, Option, sym, refl, ◌∙◌, subst, arith}
use Rattle.std.specs.List.{between, AllByRecursion}
use Rattle.std.proofs.ByRecursion.{All-push}
use Rattle.std.proofs.lemmas.List.{append_assoc, drop_at, take_at, length-append}
use Rattle.std.proofs.lemmas.Slice.{between_to_end}
use Rattle.table.specs.declared.kinds.Node.{Node}
use Rattle.table.specs.declared.kinds.Class.TheVariants.{OneMethod}
use Rattle.names.specs.Env.{Env, first_in}
use Rattle.parts.specs.Parts.{Is, Row}
use Rattle.parts.proofs.Rows.{row_next}
use Rattle.library.specs.declared.member.Member.{Member}
use Rattle.library.specs.Members.{called}
use Rattle.grammar.specs.Ready.{DeclaredAt}
use Rattle.grammar.specs.PassTwo.{Scope, MethodIs, MethodsAre, method}
use Rattle.grammar.specs.Members.MembersAre.{none, more}

pub middle_part : {X : Type 0} (xs ys zs : List X) (i j : ℕ) → i ≡ length xs → j ≡ length (xs ++ ys) → between i j (xs ++ ys ++ zs) ≡ ys
middle_part xs ys zs i j a b =
    let d = drop_at xs (ys ++ zs) i (sym a) in
    let l = length-append xs ys in
    rw (append_assoc xs ys zs, d) (take_at ys zs (j - i) (omega arith))

pub last_part : {X : Type 0} (xs zs : List X) (i j : ℕ) → i ≡ length xs → j ≡ length (xs ++ zs) → between i j (xs ++ zs) ≡ zs
last_part xs zs i j a b = between_to_end (xs ++ zs) i j (omega arith) ∙ drop_at xs zs i (sym a)

-- what holds of every entry holds of the first that an environment defines
pub first_all : {E : Type 0} (P : Member → Type 0) (xs : List Member) (e : Env E) (d : Member) → AllByRecursion P xs → first_in called xs e ≡ Some d → P d
first_all P [] e d a h = absurd (let z : ◌≡◌ {A = ℕ} 0 1 = cc in omega arith)
first_all P (x ∷ xs) e d a h = by (e (called x)) refl (λ k. first_all P xs e d a.1 k)
  where
    by : (o : Option _) → e (called x) ≡ o → (first_in called xs e ≡ Some d → P d) → P d
    by (Some y) f r = let i : x ≡ d = cc in subst P i a.0
    by None f r = r (cc)

method_at : {T : List Node} {x : Scope} {q : ℕ} {m : Member} → MethodIs T x q m → Is T OneMethod q → DeclaredAt T x.kept m
method_at {q = q} (method v t es ps o) i = (q, refl, i)

-- the methods of a list are declared in the batch
pub methods_placed : {T : List Node} {x : Scope} {e q : ℕ} {M N : List Member} (n : ℕ) → Row T OneMethod n q e → MethodsAre T x e M q N → AllByRecursion (DeclaredAt T x.kept) M → AllByRecursion (DeclaredAt T x.kept) N
methods_placed n r none a = a
methods_placed {T} {x} {e} n r (more {M = M} {q = q} {m = m} h d l z) a =
    let k = row_next T OneMethod e n q r h in
    methods_placed k.rest k.row z (All-push (DeclaredAt T x.kept) M m a (method_at d k.here))
