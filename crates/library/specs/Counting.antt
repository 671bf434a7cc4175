-- The counts of a library, and what it held when it had them.
use Rattle.std.specs.Prelude.{◌≡◌, ℕ, ◌≤◌, length, take}
use Rattle.library.specs.declared.counts.Counts.{Counts}
use Rattle.library.specs.declared.held.Library.{Library}
use Rattle.library.specs.Contents.{Contents, contents}

abbrev pub counts_of : Contents → Counts
counts_of w = record { classes = length w.classes; members = length w.members; nodes = length w.nodes }

-- so many classes, members and nodes, and nothing behind them
abbrev pub cut_to : Counts → Contents → Contents
cut_to s w = record { classes = take s.classes w.classes; layouts = take s.classes w.layouts; members = take s.members w.members; nodes = take s.nodes w.nodes; attributes = take s.nodes w.attributes }

-- in front of what a library holds stands all that some library with those counts held
abbrev pub Continues : Counts → Library → Type 0
Continues s l = (old : Library) × (cut_to s (contents l) ≡ contents old)

-- the first c classes, the first m members and all nodes are in the new contents as they were in the old
abbrev pub Untouched : ℕ → ℕ → Contents → Contents → Type 0
Untouched c m old new = (s : Counts) → s.classes ≤ c → s.members ≤ m → cut_to s new ≡ cut_to s old
