-- What a store of slips is once the front of its free chain is the chain of one more record.
use Rattle.std.proofs.Common.{◌≡◌, ℕ, ◌-◌, ◌≤◌, true, List, [], ◌∷◌, ◌++◌, length, vec_items, sym, ap, ◌∙◌}
use Rattle.std.specs.Vec.{with_items}
use Rattle.std.proofs.lemmas.List.{with_items_is}
use Rattle.store.specs.Model.{Rec, with_record}
use Rattle.slips.specs.declared.slot.Slot.{Slot}
use Rattle.store.specs.declared.head.Head.{Head}
use Rattle.slips.specs.declared.slips.Slips.{Slips}
use Rattle.slips.specs.Chains.{after, chain, within, nulled, linked, model_of}
use Rattle.slips.specs.SlipsModel.{slips_model}
use Rattle.slips.proofs.Writing.{length_nulled}
use Rattle.slips.proofs.Holding.{front_there, created_linked, created_records}

module _ {m n : ℕ} (s : Slips m n) where
  -- the first k free slots are there
  pub front_free : (us : List Slot) (k : ℕ) → us ≡ vec_items s.slots → k ≤ s.cells_left → within us (chain us k s.free) ≡ true
  front_free us k e fits = ap (λ vs. within vs (chain vs k s.free)) e ∙ front_there (vec_items s.slots) (vec_items s.heads) s.free s.cells_left s.chains k 0 fits

  module _ (h : Head ℕ) (us ws : List Slot) (gs : List (Head ℕ)) (f : ℕ) (fits : h.count ≤ s.cells_left) (from : h.first ≡ s.free) (same : us ≡ vec_items s.slots)
      (walked : ws ≡ nulled us (chain us h.count s.free)) (end : f ≡ after us h.count s.free) (pushed : gs ≡ vec_items s.heads ++ h ∷ []) where
    abbrev head : Head ℕ
    head = record { class = h.class; first = s.free; count = h.count }

    abbrev blanked : List Slot
    blanked = nulled (vec_items s.slots) (chain (vec_items s.slots) h.count s.free)

    slots_after : vec_items (with_items s.slots ws) ≡ blanked
    slots_after =
        let e : ws ≡ blanked = walked ∙ ap (λ vs. nulled vs (chain vs h.count s.free)) same in
        with_items_is s.slots ws (ap length e ∙ length_nulled (vec_items s.slots) (chain (vec_items s.slots) h.count s.free) ∙ sym s.slots.ok.0) ∙ e

    heads_after : gs ≡ vec_items s.heads ++ head ∷ []
    heads_after = pushed ∙ ap (λ i. vec_items s.heads ++ record { class = h.class; first = i; count = h.count } ∷ []) from

    free_after : f ≡ after (vec_items s.slots) h.count s.free
    free_after = end ∙ ap (λ vs. after vs h.count s.free) same

    pub grown_linked : linked (vec_items (with_items s.slots ws)) gs f (s.cells_left - h.count) ≡ true
    grown_linked =
        ap (λ vs. linked vs gs f (s.cells_left - h.count)) slots_after
        ∙ ap (λ xs. linked blanked xs f (s.cells_left - h.count)) heads_after
        ∙ ap (λ i. linked blanked (vec_items s.heads ++ head ∷ []) i (s.cells_left - h.count)) free_after
        ∙ created_linked (vec_items s.slots) (vec_items s.heads) s.free s.cells_left s.chains h.count h.class fits

    pub grown : model_of (vec_items (with_items s.slots ws)) gs (s.records_left - 1) (s.cells_left - h.count) ≡ with_record (slips_model s) h.class h.count
    grown =
        ap (λ vs. model_of vs gs (s.records_left - 1) (s.cells_left - h.count)) slots_after
        ∙ ap (λ xs. model_of blanked xs (s.records_left - 1) (s.cells_left - h.count)) heads_after
        ∙ ap (λ (rs : List Rec). record { records = rs; records_left = s.records_left - 1; cells_left = s.cells_left - h.count }) (created_records (vec_items s.slots) (vec_items s.heads) s.free s.cells_left s.chains h.count h.class fits)
