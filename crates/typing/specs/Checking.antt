-- What a checker has, and what its functions leave and answer.
use Rattle.std.specs.Prelude.{◌≡◌, ℕ, List, Result}
use Rattle.table.specs.declared.kinds.Node.{Node}
use Rattle.values.specs.declared.types.«Type».{«Type» as Ty}
use Rattle.library.specs.Contents.{Contents, contents}
use Rattle.grammar.specs.declared.fault.RuleFault.{RuleFault}
use Rattle.typing.specs.declared.checker.Checker.{Checker}
use Rattle.typing.specs.Settings.{Setting, setting}
use Rattle.typing.specs.Checked.{ExprAnswer, LvalueAnswer, RvalueAnswer}

-- the nodes of its batch
abbrev pub batch : Checker → List Node
batch s = s.scene.batch.nodes.now

-- what its library holds
abbrev pub held : Checker → Contents
held s = contents s.library.now

-- what its expressions are checked against
abbrev pub around : Checker → Setting
around s = setting (held s) s.scene.class s.scene.locals.now

-- the scene is the same and so is the library, but not what it holds
pub record Stays (s t : Checker) : Type 0 where
  pub scene : t.scene ≡ s.scene
  pub library : t.library.ghost_name ≡ s.library.ghost_name

-- what a check at p answers in s, and leaves in t
abbrev pub ExprFound : Checker → Checker → ℕ → Result Ty RuleFault → Type 0
ExprFound s t p r = ExprAnswer (batch s) (around s) s.scene.kept p (held s) (held t) r

abbrev pub LvalueFound : Checker → Checker → ℕ → Result Ty RuleFault → Type 0
LvalueFound s t p r = LvalueAnswer (batch s) (around s) s.scene.kept p (held s) (held t) r

abbrev pub RvalueFound : Checker → Checker → Ty → ℕ → Result (Unit {0}) RuleFault → Type 0
RvalueFound s t u p r = RvalueAnswer (batch s) (around s) s.scene.kept u p (held s) (held t) r
