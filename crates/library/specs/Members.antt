-- Members by name, and the part of them that one class declares.
use Rattle.std.specs.Prelude.{ℕ, ◌≤◌, List, slice_index_or}
use Rattle.std.specs.List.{between}
use Rattle.library.specs.declared.member.Member.{Member}
use Rattle.library.specs.declared.member.Layout.{Layout}

abbrev pub called : Member → ℕ
called m = m.name

abbrev pub layout_at : List Layout → ℕ → Layout
layout_at ls k = slice_index_or ls k (record { first = 0; end = 0; cells = 0 })

-- a layout speaks of members that there are, and of no more cells than members
abbrev pub Placed : Layout → ℕ → Type 0
Placed l n = (l.first ≤ l.end) × (l.end ≤ n) × (l.cells ≤ n)

-- the members that the class k declares itself
abbrev pub own : List Layout → List Member → ℕ → List Member
own ls ms k = between (layout_at ls k).first (layout_at ls k).end ms
