-- Attributes that are written one after the other, and what they leave as it is.
use Rattle.std.proofs.Common.{◌≡◌, ℕ, ◌+◌, List, [], ◌∷◌, ◌++◌, set, Some, Option, sym, refl, ap, ◌∙◌}
use Rattle.library.specs.declared.attribute.Attribute.{Attribute}
use Rattle.library.specs.Contents.{Contents, with_attributes}
use Rattle.library.specs.Environments.{environment}
use Rattle.typing.specs.declared.local.Local.{Local}
use Rattle.typing.specs.Settings.{setting, Log, noted, with_log}

noted_append : (n : ℕ) (V W : Log) (as' : List (Option Attribute)) → noted n (V ++ W) as' ≡ noted n W (noted n V as')
noted_append n [] W as' = refl
noted_append n ((p, a) ∷ V) W as' = noted_append n V W (set as' (n + p) (Some a))

module _ (n : ℕ) (w : Contents) where
  pub setting_log : (W : Log) (k : Option ℕ) (ls : List Local) → setting (with_log n W w) k ls ≡ setting w k ls
  unfolding environment
  setting_log W k ls = refl

  pub no_log : with_log n [] w ≡ w
  no_log = refl

  module _ {u v : Contents} where
    pub then_log : (V W : Log) → u ≡ with_log n V w → v ≡ with_log n W u → v ≡ with_log n (V ++ W) w
    then_log V W a b = b ∙ ap (with_log n W) a ∙ ap (with_attributes w) (sym (noted_append n V W w.attributes))

  -- what is in view does not depend on attributes
  module _ {u : Contents} where
    pub after_setting : (W : Log) (k : Option ℕ) (ls : List Local) → u ≡ with_log n W w → setting u k ls ≡ setting w k ls
    after_setting W k ls e = ap (λ x. setting x k ls) e ∙ setting_log W k ls
