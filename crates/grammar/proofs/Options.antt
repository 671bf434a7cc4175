-- An option that was tested.
use Rattle.std.proofs.Common.{◌≡◌, true, false, is_some, Some, None, Option, sym, refl}
use borrow.Author.Tests.{clash}

pub some_from : {X : Type 0} (o : Option X) → is_some o ≡ true → (x : X) × (o ≡ Some x)
some_from (Some x) e = (x, refl)
some_from None e = absurd (clash e)

pub none_from : {X : Type 0} (o : Option X) → is_some o ≡ false → o ≡ None
none_from (Some x) e = absurd (clash (sym e))
none_from None e = refl
