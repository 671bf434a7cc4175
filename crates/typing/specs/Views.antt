-- Names for what pass three reads off a table.
use Rattle.std.specs.Prelude.{ℕ}
use Rattle.table.specs.declared.view.Expression.{Expression}
use Rattle.table.specs.declared.view.Instruction.TheVariants.{Evaluate}
use Rattle.table.specs.declared.view.View.{View}
use Rattle.table.specs.declared.view.View.TheVariants.{Execute}
use Rattle.typing.specs.declared.local.Local.{Local}

abbrev pub local_name : Local → ℕ
local_name l = l.name

-- the view of an expression
abbrev pub evaluates : Expression → View
evaluates e = Execute (Evaluate e)
