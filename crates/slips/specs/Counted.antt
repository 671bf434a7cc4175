-- What a store of slips uses and what it has left make up the whole. This stands in specs/ since a law's proof in src/ can cite nothing else.
use Rattle.std.specs.Prelude.{◌≡◌, ℕ, zero, suc, ◌+◌, ◌≤◌, ◌&&◌, List, [], ◌∷◌, map, length, refl}
use Rattle.std.proofs.Common.{ap, leb, arith}
use Rattle.std.proofs.lemmas.Bool.{and_parts, leb-true}
use Rattle.std.proofs.lemmas.List.{length-map}
use Rattle.store.specs.Model.{cells_used}
use Rattle.slips.specs.Chains.{slot, chain, value_at, counts, rec_of}
use Rattle.slips.specs.SlipsModel.{slips_model}
use Rattle.slips.specs.declared.slot.Slot.{Slot}
use Rattle.store.specs.declared.head.Head.{Head}
use Rattle.slips.specs.declared.slips.Slips.{Slips}

pub length_chain : (ss : List Slot) (n i : ℕ) → length (chain ss n i) ≡ n
length_chain ss zero i = refl
length_chain ss (suc n) i = ap suc (length_chain ss n (slot ss i).next)

-- the records have as many cells as the heads count
pub cells_counted : (ss : List Slot) (hs : List (Head ℕ)) → cells_used (map (rec_of ss) hs) ≡ counts hs
cells_counted ss [] = refl
cells_counted ss (h ∷ hs) =
    let e = cells_counted ss hs in
    let l = length-map (chain ss h.count h.first) (value_at ss) in
    let k = length_chain ss h.count h.first in
    omega arith

pub sizes_bounded : {m n : ℕ} (s : Slips m n) → (1 ≤ m) × (m ≤ 1000) × (n ≤ 2000)
sizes_bounded {m} {n} s =
    let p = and_parts (leb 1 m && leb m 1000) (leb n 2000) s.sizes in
    let q = and_parts (leb 1 m) (leb m 1000) p.0 in
    (leb-true 1 m q.0, leb-true m 1000 q.1, leb-true n 2000 p.1)

pub records_whole : {m n : ℕ} (s : Slips m n) → length (slips_model s).records + s.records_left ≡ m
records_whole s = omega (arith, length-map s.heads.items (rec_of s.slots.items), s.heads.ok.0, s.records_kept)

pub cells_whole : {m n : ℕ} (s : Slips m n) → cells_used (slips_model s).records + s.cells_left ≡ n
cells_whole s = omega (arith, cells_counted s.slots.items s.heads.items, s.cells_kept)
