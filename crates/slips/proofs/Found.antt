-- What a store of slips has at the slot of a cell, and what a write to it leaves.
use Rattle.std.proofs.Common.{◌≡◌, ℕ, true, Some, None, vec_items, slice_index_or, slice_set, sym, ap, ◌∙◌, length-set}
use Rattle.std.specs.Option.{option_map}
use Rattle.std.proofs.lemmas.List.{get_or_read}
use Rattle.values.specs.declared.value.Value.{Value}
use Rattle.store.specs.Model.{cell_at, with_cell}
use Rattle.slips.specs.declared.slot.Slot.{Slot}
use Rattle.slips.specs.declared.slips.Slips.{Slips}
use Rattle.slips.specs.Chains.{no_slot, value_at, with_slot, linked, model_of, slot_at}
use Rattle.slips.specs.SlipsModel.{slips_model}
use Rattle.slips.proofs.Writing.{next_same, with_read}
use Rattle.slips.proofs.Holding.{cell_is, slot_within, linked_same, written}

module _ {m n : ℕ} (s : Slips m n) (r j : ℕ) where
  pub cell_none : None ≡ slot_at (vec_items s.slots) (vec_items s.heads) r j → cell_at (slips_model s) r j ≡ None
  cell_none e = cell_is (vec_items s.slots) (vec_items s.heads) r j s.records_left s.cells_left ∙ ap (option_map (value_at (vec_items s.slots))) (sym e)

  module _ (a : ℕ) (e : Some a ≡ slot_at (vec_items s.slots) (vec_items s.heads) r j) where
    pub cell_some : (x : Slot) → x ≡ slice_index_or (vec_items s.slots) a x → cell_at (slips_model s) r j ≡ Some x.value
    cell_some x q =
        cell_is (vec_items s.slots) (vec_items s.heads) r j s.records_left s.cells_left ∙ ap (option_map (value_at (vec_items s.slots))) (sym e) ∙
        sym (ap (λ (y : Slot). Some y.value) (get_or_read (vec_items s.slots) a x (slot_within (vec_items s.slots) (vec_items s.heads) s.free s.cells_left s.chains r j a e) q no_slot))

    module _ (x : Slot) (v : Value) (q : x ≡ slice_index_or (vec_items s.slots) a x) where
      set_slot : slice_set (vec_items s.slots) a (record { value = v; next = x.next }) ≡ with_slot (vec_items s.slots) a v
      set_slot = with_read (vec_items s.slots) a x v (slot_within (vec_items s.slots) (vec_items s.heads) s.free s.cells_left s.chains r j a e) q

      pub still_linked : linked (slice_set (vec_items s.slots) a (record { value = v; next = x.next })) (vec_items s.heads) s.free s.cells_left ≡ true
      still_linked =
          ap (λ us. linked us (vec_items s.heads) s.free s.cells_left) set_slot
          ∙ linked_same (with_slot (vec_items s.slots) a v) (vec_items s.slots) (vec_items s.heads) s.free s.cells_left (next_same (vec_items s.slots) a v) (length-set (vec_items s.slots) a _) ∙ s.chains

      pub cell_written : model_of (slice_set (vec_items s.slots) a (record { value = v; next = x.next })) (vec_items s.heads) s.records_left s.cells_left ≡ with_cell (slips_model s) r j v
      cell_written =
          ap (λ us. model_of us (vec_items s.heads) s.records_left s.cells_left) set_slot
          ∙ written (vec_items s.slots) (vec_items s.heads) s.free s.cells_left s.chains a v r j s.records_left s.cells_left e
