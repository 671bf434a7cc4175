-- Records cut off one sequence of cells: how many they are, what they hold, and what a write or a new record does.
use Rattle.std.specs.Prelude.{◌≡◌, ℕ, zero, suc, ◌+◌, ◌-◌, ◌<◌, ◌≤◌, true, ◌⊎◌, List, [], ◌∷◌, ◌++◌, length, get_or, take, drop, replicate, Some, None, ◌==◌, slice_index_or, slice_set, refl}
use Rattle.std.proofs.Common.{sym, ap, subst, ◌∙◌, ⊎_elim, arith, eqb-true, eq-eqb}
use Rattle.std.specs.List.{slice_get}
use Rattle.std.proofs.lemmas.Bool.{and_parts, and_from}
use Rattle.std.proofs.lemmas.List.{append_assoc, replicate_more, length-take, length-drop, take_all, drop-drop, drop-set-lt, drop-set-add, take-set-le, take-append-le, drop-append-le, nil_from_length, get_or-take, get_or-drop}
use Rattle.std.proofs.Math.Seq.{take-set-lt}
use Rattle.std.proofs.lemmas.Option.{slice_get-get_or, slice_get_past}
use Rattle.values.specs.declared.value.Value.{Value}
use Rattle.values.specs.declared.value.Value.TheVariants.{Null}
use Rattle.store.specs.Model.{record_at, with_value_at, with_cell}
use Rattle.rows.specs.Tiles.{tiles}
use Rattle.rows.specs.Meaning.{cut, no_head}
use Rattle.rows.specs.Counted.{cut_length, tiles_reach}
use Rattle.store.specs.declared.head.Head.{Head}

-- each record's cells lie between a and e
pub tiles_within : (hs : List (Head ℕ)) (a e i : ℕ) → tiles hs a e ≡ true → i < length hs → (a ≤ (get_or hs i no_head).first) × ((get_or hs i no_head).first + (get_or hs i no_head).count ≤ e)
tiles_within [] a e i t l = absurd (omega arith)
tiles_within (h ∷ hs) a e zero t l =
    let p = and_parts (h.first == a) _ t in
    let q = eqb-true h.first a p.0 in
    let r = tiles_reach hs (a + h.count) e p.1 in
    (omega arith, omega arith)
tiles_within (h ∷ hs) a e (suc i) t l =
    let r = tiles_within hs (a + h.count) e i (and_parts (h.first == a) _ t).1 (omega arith) in
    let b = r.0 in
    (omega arith, r.1)

pub cut_at : (hs : List (Head ℕ)) (vs : List Value) (a e i : ℕ) → tiles hs a e ≡ true → i < length hs →
    slice_get (cut hs vs) i ≡ Some (record { class = (get_or hs i no_head).class; cells = take (get_or hs i no_head).count (drop ((get_or hs i no_head).first - a) vs) })
cut_at [] vs a e i t l = absurd (omega arith)
cut_at (h ∷ hs) vs a e zero t l =
    let q = eqb-true h.first a (and_parts _ _ t).0 in
    let z : h.first - a ≡ 0 = omega arith in
    ap (λ n. Some (record { class = h.class; cells = take h.count (drop n vs) })) (sym z)
cut_at (h ∷ hs) vs a e (suc i) t l =
    let u = (and_parts (h.first == a) _ t).1 in
    let x = get_or hs i no_head in
    let b = (tiles_within hs (a + h.count) e i u (omega arith)).0 in
    let s : h.count + (x.first - (a + h.count)) ≡ x.first - a = omega arith in
    cut_at hs (drop h.count vs) (a + h.count) e i u (omega arith) ∙
    ap (λ ws. Some (record { class = x.class; cells = take x.count ws })) (drop-drop (x.first - (a + h.count)) h.count vs ∙ ap (λ n. drop n vs) s)

-- to write a cell of one record leaves the others
pub cut_set : (hs : List (Head ℕ)) (vs : List Value) (a e i j : ℕ) (v : Value) → tiles hs a e ≡ true → i < length hs → j < (get_or hs i no_head).count →
    cut hs (slice_set vs ((get_or hs i no_head).first - a + j) v) ≡ with_value_at (cut hs vs) i j v
cut_set [] vs a e i j v t l m = absurd (omega arith)
cut_set (h ∷ hs) vs a e zero j v t l m =
    let q = eqb-true h.first a (and_parts _ _ t).0 in
    let z : h.first - a + j ≡ j = omega arith in
    let c = h.count in
    ap (λ n. cut (h ∷ hs) (slice_set vs n v)) z ∙
    ap (λ (ws : List Value). record { class = h.class; cells = ws } ∷ cut hs (drop c (slice_set vs j v))) (take-set-lt c vs j v m) ∙
    ap (λ ws. record { class = h.class; cells = slice_set (take c vs) j v } ∷ cut hs ws) (drop-set-lt c vs j v m)
cut_set (h ∷ hs) vs a e (suc i) j v t l m =
    let u = (and_parts (h.first == a) _ t).1 in
    let x = get_or hs i no_head in
    let c = h.count in
    let b = (tiles_within hs (a + c) e i u (omega arith)).0 in
    let n = x.first - (a + c) + j in
    let s : x.first - a + j ≡ c + n = omega arith in
    ap (λ k. cut (h ∷ hs) (slice_set vs k v)) s ∙
    ap (λ (ws : List Value). record { class = h.class; cells = ws } ∷ cut hs (drop c (slice_set vs (c + n) v))) (take-set-le c vs (c + n) v (omega arith)) ∙
    ap (λ ws. record { class = h.class; cells = take c vs } ∷ cut hs ws) (drop-set-add c vs n v) ∙
    ap (λ rs. record { class = h.class; cells = take c vs } ∷ rs) (cut_set hs (drop c vs) (a + c) e i j v u (omega arith) m)

-- one more record behind the others
pub cut_push : (hs : List (Head ℕ)) (vs ws : List Value) (h : Head ℕ) (a : ℕ) → tiles hs a (a + length vs) ≡ true → length ws ≡ h.count →
    cut (hs ++ h ∷ []) (vs ++ ws) ≡ cut hs vs ++ record { class = h.class; cells = ws } ∷ []
cut_push [] vs ws h a t n =
    let q = eqb-true a (a + length vs) t in
    let e : vs ≡ [] = nil_from_length vs (omega arith) in
    ap (λ (us : List Value). record { class = h.class; cells = us } ∷ []) (ap (λ us. take h.count (us ++ ws)) e ∙ take_all h.count ws (omega arith))
cut_push (g ∷ hs) vs ws h a t n =
    let u = (and_parts (g.first == a) _ t).1 in
    let c = g.count in
    let r = tiles_reach hs (a + c) (a + length vs) u in
    let d : a + c + length (drop c vs) ≡ a + length vs = simp length-drop (omega arith) in
    ap (λ (us : List Value). record { class = g.class; cells = us } ∷ cut (hs ++ h ∷ []) (drop c (vs ++ ws))) (take-append-le c vs ws (omega arith)) ∙
    ap (λ us. record { class = g.class; cells = take c vs } ∷ cut (hs ++ h ∷ []) us) (drop-append-le c vs ws (omega arith)) ∙
    ap (λ rs. record { class = g.class; cells = take c vs } ∷ rs) (cut_push hs (drop c vs) ws h (a + c) (subst (λ e. tiles hs (a + c) e ≡ true) (sym d) u) n)

pub tiles_push : (hs : List (Head ℕ)) (h : Head ℕ) (a e f : ℕ) → tiles hs a e ≡ true → h.first ≡ e → e + h.count ≡ f → tiles (hs ++ h ∷ []) a f ≡ true
tiles_push [] h a e f t q r = let p = eqb-true a e t in and_from _ _ (eq-eqb h.first a (omega arith)) (eq-eqb (a + h.count) f (omega arith))
tiles_push (g ∷ hs) h a e f t q r = let p = and_parts (g.first == a) _ t in and_from _ _ p.0 (tiles_push hs h (a + g.count) e f p.1 q r)

pub nulls_more : (vs ws us : List Value) (n : ℕ) → ws ≡ vs ++ replicate n Null → us ≡ ws ++ Null ∷ [] → us ≡ vs ++ replicate (n + 1) Null
nulls_more vs ws us n e f = f ∙ ap (λ xs. xs ++ Null ∷ []) e ∙ append_assoc vs (replicate n Null) (Null ∷ []) ∙ ap (λ xs. vs ++ xs) (replicate_more n Null)

-- a record by its number
pub at_none : (hs : List (Head ℕ)) (vs : List Value) (n k r : ℕ) → (r ≡ 0) ⊎ (length hs < r) → record_at (record { records = cut hs vs; records_left = n; cells_left = k }) r ≡ None
at_none hs vs n k zero h = refl
at_none hs vs n k (suc i) h = slice_get_past (cut hs vs) i (rw (cut_length hs vs) (⊎_elim (λ e. omega arith) (λ l. omega arith) h))

pub at_some : (hs : List (Head ℕ)) (vs : List Value) (n k r : ℕ) (h : Head ℕ) → tiles hs 0 (length vs) ≡ true → 1 ≤ r → r ≤ length hs → h ≡ slice_index_or hs (r - 1) no_head →
    record_at (record { records = cut hs vs; records_left = n; cells_left = k }) r ≡ Some (record { class = h.class; cells = take h.count (drop h.first vs) })
at_some hs vs n k zero h t a b e = absurd (omega arith)
at_some hs vs n k (suc i) h t a b e =
    let d : suc i - 1 ≡ i = omega arith in
    let f = e ∙ ap (λ j. get_or hs j no_head) d in
    let x = get_or hs i no_head in
    let z : x.first - 0 ≡ x.first = omega arith in
    cut_at hs vs 0 (length vs) i t (omega arith) ∙
    ap (λ m. Some (record { class = x.class; cells = take x.count (drop m vs) })) z ∙
    ap (λ (y : Head ℕ). Some (record { class = y.class; cells = take y.count (drop y.first vs) })) (sym f)

pub head_within : (hs : List (Head ℕ)) (e r : ℕ) (h : Head ℕ) → tiles hs 0 e ≡ true → 1 ≤ r → r ≤ length hs → h ≡ slice_index_or hs (r - 1) no_head → h.first + h.count ≤ e
head_within hs e r h t a b q = subst (λ (x : Head ℕ). x.first + x.count ≤ e) (sym q) (tiles_within hs 0 e (r - 1) t (omega arith)).1

-- a cell inside and outside
pub cell_there : (vs : List Value) (f c j : ℕ) (d : Value) → f + c ≤ length vs → j < c → slice_get (take c (drop f vs)) j ≡ Some (slice_index_or vs (f + j) d)
cell_there vs f c j d l m =
    slice_get-get_or (take c (drop f vs)) j d (simp (length-take, length-drop) (omega arith)) ∙ ap Some (get_or-take c (drop f vs) j d m ∙ get_or-drop f vs j d)

pub cell_absent : (vs : List Value) (f c j : ℕ) → c ≤ j → slice_get (take c (drop f vs)) j ≡ None
cell_absent vs f c j m = slice_get_past (take c (drop f vs)) j (simp length-take (omega arith))

pub written : (hs : List (Head ℕ)) (vs : List Value) (n k r j : ℕ) (v : Value) (h : Head ℕ) → tiles hs 0 (length vs) ≡ true → 1 ≤ r → r ≤ length hs → h ≡ slice_index_or hs (r - 1) no_head → j < h.count →
    record { records = cut hs (slice_set vs (h.first + j) v); records_left = n; cells_left = k } ≡ with_cell (record { records = cut hs vs; records_left = n; cells_left = k }) r j v
written hs vs n k zero j v h t a b e m = absurd (omega arith)
written hs vs n k (suc i) j v h t a b e m =
    let d : suc i - 1 ≡ i = omega arith in
    let f = e ∙ ap (λ q. get_or hs q no_head) d in
    let g : h.first + j ≡ (get_or hs i no_head).first - 0 + j = ap (λ (x : Head ℕ). x.first + j) f ∙ omega arith in
    let l : j < (get_or hs i no_head).count = subst (λ (x : Head ℕ). j < x.count) f m in
    ap (λ rs. record { records = rs; records_left = n; cells_left = k }) (ap (λ q. cut hs (slice_set vs q v)) g ∙ cut_set hs vs 0 (length vs) i j v t (omega arith) l)
