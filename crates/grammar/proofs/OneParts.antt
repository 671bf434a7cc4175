-- A node has one list of parts.
use Rattle.std.proofs.Common.{◌≡◌, ℕ, Bool, List}
use Rattle.table.specs.View.{view}
use Rattle.table.specs.declared.kinds.Node.{Node}
use Rattle.table.specs.declared.view.View.TheVariants.{Program, DeclClass, DeclField, DeclMethod, DeclParam, List as Elements}

module _ (T : List Node) (p : ℕ) where
  abbrev pub ProgramParts : ℕ × ℕ → Type 0
  ProgramParts i = view T p ≡ Program i.0 i.1

  abbrev pub ClassParts : ℕ × ℕ × ℕ × ℕ → Type 0
  ClassParts i = view T p ≡ DeclClass i.0 i.1 i.2 i.3

  abbrev pub FieldParts : Bool × ℕ × ℕ × ℕ → Type 0
  FieldParts i = view T p ≡ DeclField i.0 i.1 i.2 i.3

  abbrev pub MethodParts : ℕ × ℕ × ℕ × ℕ → Type 0
  MethodParts i = view T p ≡ DeclMethod i.0 i.1 i.2 i.3

  abbrev pub ParamParts : ℕ × ℕ → Type 0
  ParamParts i = view T p ≡ DeclParam i.0 i.1

  -- from where to where the elements of a list stand
  abbrev pub ListParts : ℕ × ℕ → Type 0
  ListParts i = view T p ≡ Elements i.0 i.1

  pub program_parts_one : (i j : ℕ × ℕ) → ProgramParts i → ProgramParts j → i ≡ j
  program_parts_one i j a b = let h : ◌≡◌ {A = ℕ × ℕ} (i.0, i.1) (j.0, j.1) = cc in h

  pub class_parts_one : (i j : ℕ × ℕ × ℕ × ℕ) → ClassParts i → ClassParts j → i ≡ j
  class_parts_one i j a b = let h : ◌≡◌ {A = ℕ × ℕ × ℕ × ℕ} (i.0, i.1, i.2, i.3) (j.0, j.1, j.2, j.3) = cc in h

  pub field_parts_one : (i j : Bool × ℕ × ℕ × ℕ) → FieldParts i → FieldParts j → i ≡ j
  field_parts_one i j a b = let h : ◌≡◌ {A = Bool × ℕ × ℕ × ℕ} (i.0, i.1, i.2, i.3) (j.0, j.1, j.2, j.3) = cc in h

  pub method_parts_one : (i j : ℕ × ℕ × ℕ × ℕ) → MethodParts i → MethodParts j → i ≡ j
  method_parts_one i j a b = let h : ◌≡◌ {A = ℕ × ℕ × ℕ × ℕ} (i.0, i.1, i.2, i.3) (j.0, j.1, j.2, j.3) = cc in h

  pub param_parts_one : (i j : ℕ × ℕ) → ParamParts i → ParamParts j → i ≡ j
  param_parts_one i j a b = let h : ◌≡◌ {A = ℕ × ℕ} (i.0, i.1) (j.0, j.1) = cc in h

  pub list_parts_one : (i j : ℕ × ℕ) → ListParts i → ListParts j → i ≡ j
  list_parts_one i j a b = let h : ◌≡◌ {A = ℕ × ℕ} (i.0, i.1) (j.0, j.1) = cc in h
