-- The parameters of a method, up to some place.
use Rattle.std.proofs.Common.{◌≡◌, ℕ, ◌+◌, ◌<◌, ◌≤◌, List, [], ◌∷◌, ◌++◌, length, sym, ap, subst, arith}
use Rattle.std.proofs.lemmas.List.{length_push}
use Rattle.table.specs.Shape.{end_of}
use Rattle.table.specs.declared.kinds.Node.{Node}
use Rattle.table.specs.declared.kinds.Class.TheVariants.{OneParam}
use Rattle.values.specs.declared.types.«Type».{«Type» as Ty}
use Rattle.types.specs.declared.class.Class.{Class}
use Rattle.parts.specs.Parts.{Row}
use Rattle.parts.proofs.Rows.{row_next, row_done}
use Rattle.library.specs.declared.definition.Signature.{Signature}
use Rattle.library.specs.Signatures.{signature}
use Rattle.grammar.specs.declared.fault.RuleFault.{RuleFault}
use Rattle.grammar.specs.Ready.{FewParams}
use Rattle.grammar.specs.PassTwo.{ParamIs, ParamsAre, BreaksParams}
use Rattle.grammar.specs.PassTwo.ParamsAre.{none, more}
use Rattle.grammar.specs.PassTwo.BreaksParams.{later}

module _ (T : List Node) (cs : List Class) (e first : ℕ) where
  -- the parameters before q make up the signature
  pub record Listed (s : Signature) (q : ℕ) : Type 0 where
    pub types : List Ty
    pub made : s ≡ signature types
    pub rest : ℕ
    pub few : length types + rest ≤ 8
    pub row : Row T OneParam rest q e
    pub good : (us : List Ty) → ParamsAre T cs e types q us → ParamsAre T cs e [] first us
    pub bad : (f : RuleFault) → BreaksParams T cs e q f → BreaksParams T cs e first f

  pub listed_none : (s : Signature) → s ≡ signature [] → FewParams T first e → Listed s first
  listed_none s h r = record { types = []; made = h; rest = r.0; few = omega (arith, r.1); row = r.2; good = λ us p. p; bad = λ f b. b }

  pub listed_at : (s : Signature) (p q : ℕ) → p ≡ q → Listed s p → Listed s q
  listed_at s p q e l = subst (Listed s) e l

  pub listed_room : (s : Signature) (q : ℕ) → q < e → Listed s q → s.count < 8
  listed_room s q h p = let n = row_next T OneParam e _ q p.row h in omega (arith, p.few, n.count, ap (λ z. z.count) p.made)

  pub listed_more : (s r : Signature) (q : ℕ) (t : Ty) → q < e → ParamIs T cs q t → (p : Listed s q) → r ≡ signature (p.types ++ t ∷ []) → Listed r (end_of T q)
  listed_more s r q t h i p m =
      let n = row_next T OneParam e _ q p.row h in
      record {
        types = p.types ++ t ∷ [];
        made = m;
        rest = n.rest;
        few = omega (arith, p.few, n.count, length_push p.types t);
        row = n.row;
        good = λ us k. p.good us (more h i k);
        bad = λ f b. p.bad f (later h i b);
      }

  pub listed_all : (s : Signature) (q : ℕ) → e ≤ q → (p : Listed s q) → ParamsAre T cs e [] first p.types
  listed_all s q h p = p.good p.types (subst (λ x. ParamsAre T cs e p.types x p.types) (sym (row_done T OneParam e _ q p.row h).0) none)
