-- Pass two is settled.
use Rattle.std.proofs.Common.{◌≡◌, ℕ, suc, ◌+◌, List, [], Some, Ok, Err, Result, sym, refl, ◌∙◌, arith}
use Rattle.table.specs.Shape.{end_of}
use Rattle.table.specs.declared.kinds.Node.{Node}
use Rattle.names.specs.Env.{lookup, Apart, first_in}
use Rattle.names.proofs.Unions.{apart_none}
use Rattle.types.specs.Classes.{Extends}
use Rattle.parts.specs.Parts.{symbol_at}
use Rattle.library.specs.declared.member.Member.{Member}
use Rattle.library.specs.Members.{called}
use Rattle.library.specs.Contents.{Contents}
use Rattle.grammar.specs.declared.fault.Rule.TheVariants.{Members}
use Rattle.grammar.specs.declared.fault.Pass.TheVariants.{Two}
use Rattle.grammar.specs.declared.fault.MemberFault.{MemberFault}
use Rattle.grammar.specs.declared.fault.BatchFault.{BatchFault}
use Rattle.grammar.specs.Faults.{broken, in_member, in_class}
use Rattle.grammar.specs.PassTwo.{scope, with_members, Completes, CompletesAll, BreaksMembers, BreaksTwo, class, fields, methods, shared, shared_name}
use Rattle.grammar.specs.Settled.{SettledTwo}
use Rattle.grammar.proofs.OneParts.{ClassParts, MethodParts, ListParts, class_parts_one, list_parts_one}
use Rattle.grammar.proofs.SettlesMembers.{FieldsFrom, fields_from_one, fields_are, breaks_fields, MethodsFrom, methods_from_one, methods_are, breaks_methods}
use Rattle.grammar.proofs.Verdicts.{Single, Judged, Known, Then, Inside, Loop, good, bad, on, off, result, fault, done, stop, turn}
use Rattle.grammar.proofs.Verdicts.{is_one, judged_one, known_one, then_one, inside_one, loop_one, settled}

module _ (T : List Node) (n : ℕ) where
  -- how a method shares its name with a field
  record Shares (F M : List Member) (f : MemberFault) : Type 0 where
    method : Member
    place : ℕ
    parts : ℕ × ℕ × ℕ × ℕ
    first : first_in called M (lookup called F) ≡ Some method
    stands : method.node ≡ Some (n + place)
    parted : MethodParts T place parts
    is : f ≡ in_member method.name (broken Members parts.1)

  shares_one : (F M : List Member) (f g : MemberFault) → Shares F M f → Shares F M g → f ≡ g
  shares_one F M f g x y =
      let a = x.first in let b = y.first in let c = x.stands in let d = y.stands in
      let e : n + x.place ≡ n + y.place = cc in
      let h : x.place ≡ y.place = omega arith in
      let i = x.parted in let j = y.parted in let k = x.is in let l = y.is in
      cc

  module _ (w : Contents) (k : ℕ) where
    -- rule 2.3
    abbrev Completing : ℕ → Result Contents MemberFault → Type 0
    Completing p =
        Then (Known (ClassParts T p)) λ i.
        Then (Known (Extends w.classes k)) λ j.
        Then (Known (ListParts T i.2)) λ l.
        Then (FieldsFrom T (scope w k j n) l.1 [] l.0) λ F.
        Then (Known (ListParts T i.3)) λ o.
        Then (MethodsFrom T (scope w k j n) o.1 [] o.0) λ M.
        Judged (λ u. Apart (lookup called M) (lookup called F) × (u ≡ with_members w k j F M)) (Shares F M)

    completing_one : (p : ℕ) → Single (Completing p)
    completing_one p =
        then_one _ _ (known_one _ (class_parts_one T p)) λ i.
        then_one _ _ (known_one _ (λ x y a b. cc)) λ j.
        then_one _ _ (known_one _ (list_parts_one T _)) λ l.
        then_one _ _ (fields_from_one T (scope w k j n) _ _ _) λ F.
        then_one _ _ (known_one _ (list_parts_one T _)) λ o.
        then_one _ _ (methods_from_one T (scope w k j n) _ _ _) λ M.
        judged_one _ _ (λ u v a b. a.1 ∙ sym b.1) (shares_one F M) (λ u f a b. let x = b.first in let y = (apart_none called M (lookup called F)).0 a.0 in grind arith)

    completes : {p : ℕ} {v : Contents} → Completes T n w k p v → Completing p (Ok v)
    completes (class {j = j} e s c fs d ms a) =
        on (good e) (on (good s) (on (good c) (on (fields_are T (scope w k j n) fs) (on (good d) (on (methods_are T (scope w k j n) ms) (good (a, refl)))))))

    breaks_members : {p : ℕ} {f : MemberFault} → BreaksMembers T n w k p f → Completing p (Err f)
    breaks_members (fields {j = j} e s c b) = on (good e) (on (good s) (on (good c) (off (breaks_fields T (scope w k j n) b))))
    breaks_members (methods {j = j} e s c fs d b) = on (good e) (on (good s) (on (good c) (on (fields_are T (scope w k j n) fs) (on (good d) (off (breaks_methods T (scope w k j n) b))))))
    breaks_members (shared {j = j} {m = m} e s c fs d ms o (shared_name p h v)) =
        on (good e) (on (good s) (on (good c) (on (fields_are T (scope w k j n) fs) (on (good d) (on (methods_are T (scope w k j n) ms)
        (bad (record { method = m; place = p; parts = _; first = o; stands = h; parted = v; is = refl })))))))

  -- rule 2.2, one class, which is around its fault; the next class has the next number
  abbrev ClassTurn : Contents × ℕ → ℕ → Result (Contents × ℕ) BatchFault → Type 0
  ClassTurn s q =
      Then (Known (ClassParts T q)) λ i.
      Inside (in_class Two (symbol_at T i.0)) (Then (Completing s.0 s.1 q) λ v r. r ≡ Ok (v, suc s.1))

  class_turn_one : (s : Contents × ℕ) (q : ℕ) → Single (ClassTurn s q)
  class_turn_one s q = then_one _ _ (known_one _ (class_parts_one T q)) λ i. inside_one _ _ (then_one _ _ (completing_one s.0 s.1 q) λ v. is_one _)

  class_turn : (w : Contents) (k : ℕ) {q : ℕ} {v : Contents} → Completes T n w k q v → ClassTurn (w, k) q (Ok (v, suc k))
  class_turn w k (class e s c fs d ms a) = on (good e) (result (on (completes w k (class e s c fs d ms a)) refl))

  module _ (e : ℕ) where
    abbrev CompletingAll : Contents → ℕ → ℕ → Result Contents BatchFault → Type 0
    CompletingAll w k = Loop (λ s. s.0) (end_of T) ClassTurn e (w, k)

    completes_all : {w : Contents} {k q : ℕ} {u : Contents} → CompletesAll T n e w k q u → CompletingAll w k q (Ok u)
    completes_all CompletesAll.none = done
    completes_all (CompletesAll.more h d z) = turn h (class_turn _ _ d) (completes_all z)

    breaks_two : {w : Contents} {k q : ℕ} {f : BatchFault} → BreaksTwo T n e w k q f → CompletingAll w k q (Err f)
    breaks_two (BreaksTwo.here h v b) = stop h (on (good v) (fault (off (breaks_members _ _ b))))
    breaks_two (BreaksTwo.later h d z) = turn h (class_turn _ _ d) (breaks_two z)

pub settled_two : (T : List Node) (n e : ℕ) (w : Contents) (k q : ℕ) → SettledTwo T n e w k q
settled_two T n e w k q =
    let s = settled {G = CompletesAll T n e w k q} {B = BreaksTwo T n e w k q} (CompletingAll T n e w k q) (loop_one _ _ _ _ (class_turn_one T n) _ q) (λ u. completes_all T n e) (λ f. breaks_two T n e) in
    record { one_result = s.one_result; one_fault = s.one_fault; one_way = s.one_way }
