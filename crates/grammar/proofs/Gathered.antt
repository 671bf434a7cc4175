-- The members of a class, gathered up to some place: of its fields and of its methods alike.
use Rattle.std.proofs.Common.{◌≡◌, ℕ, ◌+◌, ◌<◌, ◌≤◌, List, [], ◌∷◌, ◌++◌, length, drop, None, sym, refl, ap, ◌∙◌, subst, arith}
use mathlib.Core.Path.{fun_ext}
use Rattle.std.proofs.lemmas.List.{append_assoc, drop_at, length_push}
use Rattle.table.specs.Shape.{end_of}
use Rattle.table.specs.declared.kinds.Node.{Node}
use Rattle.library.specs.declared.member.Member.{Member}
use Rattle.names.specs.Env.{lookup}
use Rattle.library.specs.Members.{called, layout_at, Placed}
use Rattle.library.specs.Contents.{Contents, more_members, added}
use Rattle.library.specs.Environments.{environment}
use Rattle.library.proofs.Growing.{environment_more}
use Rattle.table.specs.declared.kinds.Class.{Class}
use Rattle.parts.specs.Parts.{Is, RowOf, symbol_at}
use Rattle.parts.proofs.Rows.{row_next, row_done}
use Rattle.grammar.specs.declared.fault.Rule.{Rule}
use Rattle.grammar.specs.declared.fault.RuleFault.{RuleFault}
use Rattle.grammar.specs.declared.fault.MemberFault.{MemberFault}
use Rattle.grammar.specs.Faults.{in_member}
use Rattle.grammar.specs.Members.{MembersAre, MemberBreaks, MembersBreak, here, none, more, later}
use Rattle.grammar.specs.Ready.{Ready}
use Rattle.grammar.specs.PassTwo.{Scope, scope}

-- members of no class yet leave the scope of a class as it is
pub scope_more : (w : Contents) (F : List Member) (k j n : ℕ) → ((i : ℕ) → Placed (layout_at w.layouts i) (length w.members)) → scope (more_members w F) k j n ≡ scope w k j n
scope_more w F k j n p =
    let e : environment (more_members w F) j ≡ environment w j = fun_ext (λ x. environment_more w F p j x) in
    λ i. record { classes = w.classes; inherited = e i; cells = (layout_at w.layouts j).cells; number = k; kept = n }

-- what was added, one by one
pub added_is : (w : Contents) (F : List Member) → added w (more_members w F) ≡ F
added_is w F = drop_at w.members F (length w.members) refl

pub more_more : (w : Contents) (F G : List Member) → more_members (more_members w F) G ≡ more_members w (F ++ G)
more_more w F G = ap (λ ms. record { classes = w.classes; layouts = w.layouts; members = ms; nodes = w.nodes; attributes = w.attributes }) (append_assoc w.members F G)

pub ready_more : (T : List Node) (w : Contents) (F : List Member) (n j : ℕ) → Ready T w n j → Ready T (more_members w F) n j
ready_more T w F n j r = record { formed = r.formed; parent = r.parent; kept = r.kept }

-- The members of one kind, from the place first to e: how they are declared, and how they break a rule, in the scope at the start.
module _ (T : List Node) (c : Class) (r : Rule) (Named : ℕ → ℕ → Type 0) (Makes : Scope → ℕ → ℕ → Member → Type 0) (Breaks : Scope → ℕ → RuleFault → Type 0) (e first k j n : ℕ) (start : Contents) where
  abbrev Good : List Member → ℕ → List Member → Type 0
  Good = MembersAre T (Makes (scope start k j n)) e

  abbrev Bad : List Member → ℕ → MemberFault → Type 0
  Bad = MembersBreak T r Named (Makes (scope start k j n)) (Breaks (scope start k j n)) e

  -- the members before q are added
  pub record Gathered (w : Contents) (q : ℕ) : Type 0 where
    pub row : RowOf T c q e
    pub grown : w ≡ more_members start (added start w)
    pub good : (G : List Member) → Good (added start w) q G → Good [] first G
    pub bad : (f : MemberFault) → Bad (added start w) q f → Bad [] first f
    pub few : length w.members + first ≤ length start.members + q

  pub gathered_at : (w : Contents) (p q : ℕ) → p ≡ q → Gathered w p → Gathered w q
  gathered_at w p q h g = subst (Gathered w) h g

  pub gathered_here : (w : Contents) (q : ℕ) → q < e → Gathered w q → Is T c q
  gathered_here w q h g = (row_next T c e _ q g.row.1 h).here

  pub gathered_ready : (w : Contents) (q : ℕ) → Ready T start n j → Gathered w q → Ready T w n j
  gathered_ready w q r g = subst (λ u. Ready T u n j) (sym g.grown) (ready_more T start (added start w) n j r)

  module _ (placed : (i : ℕ) → Placed (layout_at start.layouts i) (length start.members)) (w : Contents) (q f : ℕ) (h : q < e) (s : f ≡ length start.members) (g : Gathered w q) where
    -- the class is checked in the scope that it had at the start
    same_scope : scope w k j n ≡ scope start k j n
    same_scope = ap (λ u. scope u k j n) g.grown ∙ scope_more start (added start w) k j n placed

    -- the members of the class so far
    same_members : drop f w.members ≡ added start w
    same_members = ap (λ i. drop i w.members) s

    -- one member more
    pub gathered_more : (v : Contents) (m : Member) → Makes (scope w k j n) (length (drop f w.members)) q m → lookup called (drop f w.members) m.name ≡ None → v ≡ more_members w (m ∷ []) → Gathered v (end_of T q)
    gathered_more v m d o p =
        let F = added start w in
        let t : v ≡ more_members start (F ++ m ∷ []) = p ∙ ap (λ u. more_members u (m ∷ [])) g.grown ∙ more_more start F (m ∷ []) in
        let a : added start v ≡ F ++ m ∷ [] = ap (added start) t ∙ added_is start (F ++ m ∷ []) in
        let y = row_next T c e _ q g.row.1 h in
        let x : Makes (scope start k j n) (length F) q m = subst (λ z. Makes z (length F) q m) same_scope (subst (λ M. Makes (scope w k j n) (length M) q m) same_members d) in
        let l : lookup called F m.name ≡ None = subst (λ M. lookup called M m.name ≡ None) same_members o in
        record {
          row = (y.rest, y.row);
          grown = t ∙ ap (more_members start) (sym a);
          good = λ G z. g.good G (more h x l (subst (λ H. Good H (end_of T q) G) a z));
          bad = λ f z. g.bad f (later h x l (subst (λ H. Bad H (end_of T q) f) a z));
          few = omega (arith, ap (λ u. length u.members) p, length_push w.members m, g.few, y.rises);
        }

    -- one that breaks a rule
    pub gathered_broken : (b : ℕ) (t : RuleFault) (y : ℕ × RuleFault) → y ≡ (symbol_at T b, t) → Named q b → MemberBreaks r (Makes (scope w k j n)) (Breaks (scope w k j n)) (drop f w.members) q b t → Bad [] first (in_member y.0 y.1)
    gathered_broken b t y m a d = subst (λ z. Bad [] first (in_member z.0 z.1)) (sym m) (g.bad _ (here h a (subst (λ M. MemberBreaks r (Makes (scope start k j n)) (Breaks (scope start k j n)) M q b t) same_members (subst (λ z. MemberBreaks r (Makes z) (Breaks z) (drop f w.members) q b t) same_scope d))))

  pub gathered_all : (w : Contents) (q : ℕ) → e ≤ q → Gathered w q → Good [] first (added start w)
  gathered_all w q h g = g.good _ (subst (λ p. Good (added start w) p (added start w)) (sym (row_done T c e _ q g.row.1 h).0) none)

  pub gathered_end : (w : Contents) (q : ℕ) → e ≤ q → Gathered w q → q ≡ e
  gathered_end w q h g = (row_done T c e _ q g.row.1 h).0
