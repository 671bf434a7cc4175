-- What an addition leaves as it was.
use Rattle.std.proofs.Common.{◌≡◌, ℕ, ◌≤◌, length, refl, ◌∙◌, arith}
use Rattle.std.proofs.lemmas.List.{take-append-le}
use Rattle.library.specs.Contents.{Contents, with_class}
use Rattle.library.specs.Counting.{cut_to, Untouched}
use Rattle.library.proofs.Kept.{same_contents}

pub untouched_trans : (c m d n : ℕ) (u v w : Contents) → c ≤ d → m ≤ n → Untouched c m u v → Untouched d n v w → Untouched c m u w
untouched_trans c m d n u v w l k h g s a b = g s (omega arith) (omega arith) ∙ h s a b

module _ (w : Contents) where
  pub class_untouched : (x j m : ℕ) → length w.layouts ≡ length w.classes → Untouched (length w.classes) m w (with_class w x j)
  class_untouched x j m e s a b =
      same_contents (cut_to s (with_class w x j)) (cut_to s w)
      (take-append-le s.classes w.classes _ a)
      (take-append-le s.classes w.layouts _ (omega arith))
      refl refl refl
