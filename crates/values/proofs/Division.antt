-- The law of division.
use Rattle.std.proofs.Common.{◌≡◌, ℕ, zero, suc, ◌%◌, ◌⊎◌, ℤ, pos, negsuc, neg_ℤ, nat_abs, sym, refl, inl, inr}
use Rattle.std.proofs.lemmas.Int.{quot-rem, rem_below}
use lib.Signed.{rem_z, non_neg}
use Rattle.values.specs.Laws.{Division}

like_negative : (n a : ℕ) → (neg_ℤ (pos n) ≡ pos 0) ⊎ (non_neg (neg_ℤ (pos n)) ≡ non_neg (negsuc a))
like_negative zero a = inl refl
like_negative (suc n) a = inr refl

like_left : (x y : ℤ) → (rem_z x y ≡ pos 0) ⊎ (non_neg (rem_z x y) ≡ non_neg x)
like_left (pos a) y = inr refl
like_left (negsuc a) y = like_negative (suc a % nat_abs y) a

pub division : Division
division x y h = (sym (quot-rem x y), rem_below x y h, like_left x y)
