-- Pass one is settled.
use Rattle.std.proofs.Common.{◌≡◌, ℕ, List, Some, None, Ok, Err, Result, refl, arith}
use Rattle.table.specs.Shape.{end_of}
use Rattle.table.specs.declared.kinds.Node.{Node}
use Rattle.values.specs.declared.types.«Type».TheVariants.{Class as ClassType}
use Rattle.parts.specs.Parts.{symbol_at}
use Rattle.library.specs.Contents.{Contents, with_class}
use Rattle.library.specs.Environments.{type_env}
use Rattle.grammar.specs.declared.fault.Rule.TheVariants.{Class}
use Rattle.grammar.specs.declared.fault.Pass.TheVariants.{One}
use Rattle.grammar.specs.declared.fault.RuleFault.{RuleFault}
use Rattle.grammar.specs.declared.fault.BatchFault.{BatchFault}
use Rattle.grammar.specs.Faults.{broken, in_no_member, in_class}
use Rattle.grammar.specs.PassOne.{Declares, DeclaresAll, BreaksClass, BreaksOne, class, none, more, no_super, taken, alone, here, later}
use Rattle.grammar.specs.Settled.{SettledOne}
use Rattle.grammar.proofs.OneParts.{ClassParts, class_parts_one}
use Rattle.grammar.proofs.Verdicts.{Single, Known, Sought, Guard, Then, Inside, Loop, good, bad, on, off, result, fault, done, stop, turn}
use Rattle.grammar.proofs.Verdicts.{known_one, sought_one, guard_one, then_one, inside_one, loop_one, settled}

module _ (T : List Node) where
  -- rule 1.3
  abbrev Declaring : Contents → ℕ → Result Contents RuleFault → Type 0
  Declaring w p =
      Then (Known (ClassParts T p)) λ i.
      Then (Sought (λ j. type_env w.classes (symbol_at T i.1) ≡ Some (ClassType j)) (broken Class p)) λ j.
      Guard (type_env w.classes (symbol_at T i.0) ≡ None) (with_class w (symbol_at T i.0) j) (broken Class i.0)

  declaring_one : (w : Contents) (p : ℕ) → Single (Declaring w p)
  declaring_one w p =
      then_one _ _ (known_one _ (class_parts_one T p)) λ i.
      then_one _ _ (sought_one _ _ (λ x y a b. cc)) λ j.
      guard_one _ _ _

  declares : {w v : Contents} {p : ℕ} → Declares T w p v → Declaring w p (Ok v)
  declares (class e s n) = on (good e) (on (good s) (good (n, refl)))

  breaks_class : {w : Contents} {p : ℕ} {f : RuleFault} → BreaksClass T w p f → Declaring w p (Err f)
  breaks_class (no_super e s) = on (good e) (off (bad (s, refl)))
  breaks_class (taken e s n) = on (good e) (on (good s) (bad (λ h. grind arith, refl)))

  -- rule 1.2, one class: the class is around its fault, and no member is
  abbrev ClassTurn : Contents → ℕ → Result Contents BatchFault → Type 0
  ClassTurn w q = Then (Known (ClassParts T q)) λ i. Inside (in_class One (symbol_at T i.0)) (Inside in_no_member (Declaring w q))

  class_turn_one : (w : Contents) (q : ℕ) → Single (ClassTurn w q)
  class_turn_one w q = then_one _ _ (known_one _ (class_parts_one T q)) λ i. inside_one _ _ (inside_one _ _ (declaring_one w q))

  class_turn : {w v : Contents} {q : ℕ} → Declares T w q v → ClassTurn w q (Ok v)
  class_turn (class e s n) = on (good e) (result (result (declares (class e s n))))

  module _ (e : ℕ) where
    abbrev DeclaringAll : Contents → ℕ → Result Contents BatchFault → Type 0
    DeclaringAll = Loop (λ w. w) (end_of T) ClassTurn e

    declares_all : {w u : Contents} {q : ℕ} → DeclaresAll T e w q u → DeclaringAll w q (Ok u)
    declares_all none = done
    declares_all (more h d z) = turn h (class_turn d) (declares_all z)

    breaks_one : {w : Contents} {q : ℕ} {f : BatchFault} → BreaksOne T e w q f → DeclaringAll w q (Err f)
    breaks_one (here h v (alone b)) = stop h (on (good v) (fault (fault (breaks_class b))))
    breaks_one (later h d z) = turn h (class_turn d) (breaks_one z)

pub settled_one : (T : List Node) (e : ℕ) (w : Contents) (q : ℕ) → SettledOne T e w q
settled_one T e w q =
    let s = settled {G = DeclaresAll T e w q} {B = BreaksOne T e w q} (DeclaringAll T e w q) (loop_one _ _ _ _ (class_turn_one T) w q) (λ u. declares_all T e) (λ f. breaks_one T e) in
    record { one_result = s.one_result; one_fault = s.one_fault; one_way = s.one_way }
