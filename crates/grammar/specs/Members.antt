-- Members that a class declares one behind the other, no two with one name: its fields, or its methods.
use Rattle.std.specs.Prelude.{◌≡◌, ℕ, ◌<◌, List, [], ◌∷◌, ◌++◌, length, Some, None}
use Rattle.table.specs.Shape.{end_of}
use Rattle.table.specs.declared.kinds.Node.{Node}
use Rattle.names.specs.Env.{lookup}
use Rattle.parts.specs.Parts.{symbol_at}
use Rattle.library.specs.declared.member.Member.{Member}
use Rattle.library.specs.Members.{called}
use Rattle.grammar.specs.declared.fault.Rule.{Rule}
use Rattle.grammar.specs.declared.fault.RuleFault.{RuleFault}
use Rattle.grammar.specs.declared.fault.MemberFault.{MemberFault}
use Rattle.grammar.specs.Faults.{broken, in_member}

-- The members from q to e, behind the members M: no two have one name. Is says which member is declared behind so many others at a place.
pub data MembersAre (T : List Node) (Is : ℕ → ℕ → Member → Type 0) (e : ℕ) : List Member → ℕ → List Member → Type 0 where
  none : {M : List Member} → MembersAre T Is e M e M
  more : {M N : List Member} {q : ℕ} {m : Member} → q < e → Is (length M) q m → lookup called M m.name ≡ None →
      MembersAre T Is e (M ++ m ∷ []) (end_of T q) N → MembersAre T Is e M q N

-- How the member at q, behind the members M, breaks a rule first: alone by Breaks, or by a name that is there already. Then it
-- breaks the rule r at its Identifier b.
pub data MemberBreaks (r : Rule) (Is : ℕ → ℕ → Member → Type 0) (Breaks : ℕ → RuleFault → Type 0) (M : List Member) (q b : ℕ) : RuleFault → Type 0 where
  alone : {f : RuleFault} → Breaks q f → MemberBreaks r Is Breaks M q b f
  repeated : {m o : Member} → Is (length M) q m → lookup called M m.name ≡ Some o → MemberBreaks r Is Breaks M q b (broken r b)

-- How the members from q to e break a rule first. A member is around itself; Named says where it has its Identifier.
pub data MembersBreak (T : List Node) (r : Rule) (Named : ℕ → ℕ → Type 0) (Is : ℕ → ℕ → Member → Type 0) (Breaks : ℕ → RuleFault → Type 0) (e : ℕ) : List Member → ℕ → MemberFault → Type 0 where
  here : {M : List Member} {q b : ℕ} {f : RuleFault} → q < e → Named q b → MemberBreaks r Is Breaks M q b f →
      MembersBreak T r Named Is Breaks e M q (in_member (symbol_at T b) f)
  later : {M : List Member} {q : ℕ} {m : Member} {f : MemberFault} → q < e → Is (length M) q m → lookup called M m.name ≡ None →
      MembersBreak T r Named Is Breaks e (M ++ m ∷ []) (end_of T q) f → MembersBreak T r Named Is Breaks e M q f
