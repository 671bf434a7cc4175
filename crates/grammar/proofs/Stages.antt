-- A library before a class gets its members, with its fields, and with its methods behind them.
use Rattle.std.proofs.Common.{◌≡◌, ℕ, ◌+◌, length, ap, ◌∙◌}
use Rattle.std.specs.List.{between}
use Rattle.std.proofs.lemmas.List.{length-append}
use Rattle.library.specs.Contents.{Contents, contents, more_members, added, with_layout}
use Rattle.library.specs.declared.held.Library.{Library}
use Rattle.library.proofs.Kept.{placed_in}
use Rattle.library.specs.Members.{layout_at}
use Rattle.grammar.specs.PassTwo.{scope, with_members}
use Rattle.grammar.proofs.Gathered.{scope_more}
use Rattle.grammar.proofs.Joined.{middle_part, last_part}

-- one stage: members were added and nothing else
module _ (w u : Contents) (g : u ≡ more_members w (added w u)) where
  pub stage_length : length u.members ≡ length w.members + length (added w u)
  stage_length = ap (λ v. length v.members) g ∙ length-append w.members (added w u)

  pub stage_layouts : u.layouts ≡ w.layouts
  stage_layouts = ap (λ v. v.layouts) g

-- members of no class yet leave the scope of a class as it is
pub stage_scope : (l : Library) (u : Contents) → u ≡ more_members (contents l) (added (contents l) u) → (k j n : ℕ) → scope u k j n ≡ scope (contents l) k j n
stage_scope l u g k j n = ap (λ y. scope y k j n) g ∙ scope_more (contents l) (added (contents l) u) k j n (placed_in l)

-- both stages
module _ (w u v : Contents) (g : u ≡ more_members w (added w u)) (h : v ≡ more_members u (added u v)) where
  both : v ≡ more_members (more_members w (added w u)) (added u v)
  both = h ∙ ap (λ x. more_members x (added u v)) g

  pub fields_part : (i j : ℕ) → i ≡ length w.members → j ≡ length u.members → between i j v.members ≡ added w u
  fields_part i j a b = ap (λ x. between i j x.members) both ∙ middle_part w.members (added w u) (added u v) i j a (b ∙ ap (λ x. length x.members) g)

  pub methods_part : (i j : ℕ) → i ≡ length u.members → j ≡ length v.members → between i j v.members ≡ added u v
  methods_part i j a b = ap (λ x. between i j x.members) h ∙ last_part u.members (added u v) i j a (b ∙ ap (λ x. length x.members) h)

  -- the class k gets its members
  pub finished : (k j f n : ℕ) → f ≡ length w.members → n ≡ (layout_at w.layouts j).cells + length (added w u) → with_layout v k f n ≡ with_members w k j (added w u) (added u v)
  finished k j f n a b = ap (λ x. with_layout x k f n) both ∙ ap (λ i. with_layout (more_members (more_members w (added w u)) (added u v)) k i n) a ∙ ap (with_layout (more_members (more_members w (added w u)) (added u v)) k (length w.members)) b
