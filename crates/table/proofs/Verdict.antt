-- A table is formed or refused, never both, and refused in one way only.
use Rattle.std.proofs.Common.{◌≡◌, ℕ, ◌<◌, List, length, sym, refl, ap, subst, inl, inr, arith}
use Rattle.std.proofs.lemmas.List.{get_or_past}
use Rattle.std.proofs.lemmas.Bool.{cases_lt, cases_order}
use Rattle.table.specs.Shape.{Few, Formed, Sound, Faulty, Refused, Settled, Laid, node_at}
use Rattle.table.specs.Shape.Faulty.{layout, word, deep}
use Rattle.table.specs.Shape.Refused.{many, first}
use Rattle.table.specs.declared.kinds.Node.{Node}
use Rattle.table.specs.declared.shape.ShapeFault.{ShapeFault}
use Rattle.table.proofs.Nest.{laid_filled, nests_before}

module _ (ns : List Node) where
  pub formed : Few ns → ((p : ℕ) → p < length ns → Sound ns p) → Formed ns
  formed few s =
      record {
        few = few;
        root = (s 0 few.least).placed.root refl;
        laid = laid;
        worded = λ p h. (s p h).worded;
        shallow = λ p h. (s p h).shallow;
        filled = λ p h. laid_filled ns p (laid p h);
        nests = λ p q h k. elim (cases_lt p (length ns)) [
          | inl l ↦ let w = (laid p l).within in nests_before ns p q (λ r m. laid r (omega arith)) h k
          | inr g ↦ absurd (let e : (node_at ns p).size ≡ 0 = ap (λ n. n.size) (get_or_past ns p _ g) in omega arith)
        ];
      }
    where
      laid : (p : ℕ) → p < length ns → Laid ns p
      laid p h = (s p h).placed.laid

  faulty_unsound : (p : ℕ) (f : ShapeFault) → Faulty ns p f → Sound ns p → ⊥
  faulty_unsound p f (layout n) s = n s.placed
  faulty_unsound p f (word l n) s = n s.worded
  faulty_unsound p f (deep l w d) s = let h = s.shallow in omega arith

  one_at : (p : ℕ) (f g : ShapeFault) → Faulty ns p f → Faulty ns p g → f ≡ g
  one_at p f g (layout n) (layout m) = refl
  one_at p f g (layout n) (word l m) = absurd (n l)
  one_at p f g (layout n) (deep l w d) = absurd (n l)
  one_at p f g (word l n) (layout m) = absurd (m l)
  one_at p f g (word l n) (word k m) = refl
  one_at p f g (word l n) (deep k w d) = absurd (n w)
  one_at p f g (deep l w d) (layout m) = absurd (m l)
  one_at p f g (deep l w d) (word k m) = absurd (m w)
  one_at p f g (deep l w d) (deep k v e) = refl

  one_way : (f : ShapeFault) → Formed ns → Refused ns f → ⊥
  one_way f t (many n) = n t.few
  one_way f t (first few p h before bad) =
      faulty_unsound p f bad (record { placed = record { root = λ e. t.root; laid = t.laid p h }; worded = t.worded p h; shallow = t.shallow p h })

  one_fault : (f g : ShapeFault) → Refused ns f → Refused ns g → f ≡ g
  one_fault f g (many n) (many m) = refl
  one_fault f g (many n) (first few p h before bad) = absurd (n few)
  one_fault f g (first few p h before bad) (many m) = absurd (m few)
  one_fault f g (first few p h before bad) (first few' q h' before' bad') =
      elim (cases_order p q) [
        | inl e ↦ one_at p f g bad (subst (λ r. Faulty ns r g) (sym e) bad')
        | inr s ↦ elim s [ inl l ↦ absurd (faulty_unsound p f bad (before' p l)) | inr l ↦ absurd (faulty_unsound q g bad' (before q l)) ]
      ]

  pub settled : Settled ns
  settled = record { one_way = one_way; one_fault = one_fault }
