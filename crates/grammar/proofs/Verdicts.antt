-- Verdicts: a result or a fault. How relations that allow one verdict are put together.
use Rattle.std.proofs.Common.{◌≡◌, ℕ, ◌<◌, ◌≤◌, Ok, Err, Result, sym, refl, ap, ◌∙◌, subst, arith}

-- at most one verdict
abbrev pub Single : {X F : Type 0} → (Result X F → Type 0) → Type 0
Single {X} {F} V = (r s : Result X F) → V r → V s → r ≡ s

ok_err : {X F : Type 0} {A : Type 0} (x : X) (f : F) → Ok x ≡ Err f → A
ok_err x f e = absurd (grind arith)

-- the one result u
pub is_one : {X F : Type 0} (u : X) → Single {X = X} {F = F} (λ r. r ≡ Ok u)
is_one u r s a b = a ∙ sym b

-- one relation says which result, another which fault
pub data Judged {X F : Type 0} (G : X → Type 0) (B : F → Type 0) : Result X F → Type 0 where
  good : {x : X} → G x → Judged G B (Ok x)
  bad : {f : F} → B f → Judged G B (Err f)

pub judged_one : {X F : Type 0} (G : X → Type 0) (B : F → Type 0) →
    ((x y : X) → G x → G y → x ≡ y) → ((f g : F) → B f → B g → f ≡ g) → ((x : X) (f : F) → G x → B f → ⊥) → Single (Judged G B)
judged_one G B x f c _ _ (good a) (good b) = ap Ok (x _ _ a b)
judged_one G B x f c _ _ (good a) (bad b) = absurd (c _ _ a b)
judged_one G B x f c _ _ (bad a) (good b) = absurd (c _ _ b a)
judged_one G B x f c _ _ (bad a) (bad b) = ap Err (f _ _ a b)

-- what another relation with one verdict follows from has one too
pub single_by : {X F : Type 0} {G : X → Type 0} {B : F → Type 0} (V : Result X F → Type 0) → Single V → ((x : X) → G x → V (Ok x)) → ((f : F) → B f → V (Err f)) → Single (Judged G B)
single_by V one g b _ _ (good x) (good y) = one _ _ (g _ x) (g _ y)
single_by V one g b _ _ (good x) (bad y) = one _ _ (g _ x) (b _ y)
single_by V one g b _ _ (bad x) (good y) = one _ _ (b _ x) (g _ y)
single_by V one g b _ _ (bad x) (bad y) = one _ _ (b _ x) (b _ y)

-- what is known by R; where R knows nothing, no verdict
abbrev pub Known : {X F : Type 0} → (X → Type 0) → Result X F → Type 0
Known R = Judged R (λ f. ⊥)

pub known_one : {X F : Type 0} (R : X → Type 0) → ((x y : X) → R x → R y → x ≡ y) → Single {X = X} {F = F} (Known R)
known_one R one = judged_one R (λ f. ⊥) one (λ f g a b. absurd a) (λ x f a b. b)

-- what is sought by R, and f where there is none
abbrev pub Sought : {X F : Type 0} → (X → Type 0) → F → Result X F → Type 0
Sought {X} R f = Judged R (λ g. ((x : X) → R x → ⊥) × (g ≡ f))

pub sought_one : {X F : Type 0} (R : X → Type 0) (f : F) → ((x y : X) → R x → R y → x ≡ y) → Single (Sought R f)
sought_one R f one = judged_one R _ one (λ g h a b. a.1 ∙ sym b.1) (λ x g a b. b.0 x a)

-- u where P holds, else f
abbrev pub Guard : {X F : Type 0} → Type 0 → X → F → Result X F → Type 0
Guard P u f = Judged (λ x. P × (x ≡ u)) (λ g. (P → ⊥) × (g ≡ f))

pub guard_one : {X F : Type 0} (P : Type 0) (u : X) (f : F) → Single (Guard P u f)
guard_one P u f = judged_one _ _ (λ x y a b. a.1 ∙ sym b.1) (λ g h a b. a.1 ∙ sym b.1) (λ x g a b. b.0 a.0)

-- first V, and with its result W
pub data Then {X Y F : Type 0} (V : Result X F → Type 0) (W : X → Result Y F → Type 0) : Result Y F → Type 0 where
  on : {x : X} {r : Result Y F} → V (Ok x) → W x r → Then V W r
  off : {f : F} → V (Err f) → Then V W (Err f)

module _ {X Y F : Type 0} (V : Result X F → Type 0) (W : X → Result Y F → Type 0) (one : Single V) where
  then_on : (x : X) (r s : Result Y F) → V (Ok x) → ((t : Result Y F) → W x t → r ≡ t) → Then V W s → r ≡ s
  then_on x r s a h (on {x = y} b w) = let e : y ≡ x = (let o = one _ _ b a in cc) in h s (subst (λ z. W z s) e w)
  then_on x r _ a h (off b) = ok_err _ _ (one _ _ a b)

  then_off : (f : F) (s : Result Y F) → V (Err f) → Then V W s → Err f ≡ s
  then_off f s a (on b w) = ok_err _ _ (one _ _ b a)
  then_off f _ a (off b) = let o = one _ _ a b in cc

  pub then_one : ((x : X) → Single (W x)) → Single (Then V W)
  then_one h r s (on a w) z = then_on _ r s a (λ t. h _ r t w) z
  then_one h _ s (off a) z = then_off _ s a z

-- V, with g around its fault
pub data Inside {X F E : Type 0} (g : F → E) (V : Result X F → Type 0) : Result X E → Type 0 where
  result : {x : X} → V (Ok x) → Inside g V (Ok x)
  fault : {f : F} → V (Err f) → Inside g V (Err (g f))

pub inside_one : {X F E : Type 0} (g : F → E) (V : Result X F → Type 0) → Single V → Single (Inside g V)
inside_one g V one _ _ (result a) (result b) = let o = one _ _ a b in cc
inside_one g V one _ _ (result a) (fault b) = ok_err _ _ (one _ _ a b)
inside_one g V one _ _ (fault a) (result b) = ok_err _ _ (one _ _ b a)
inside_one g V one _ _ (fault a) (fault b) = let o = one _ _ a b in cc

-- turn by turn from q to e; each turn changes the state, and out is what is left of the last one
pub data Loop {S R F : Type 0} (out : S → R) (next : ℕ → ℕ) (Turn : S → ℕ → Result S F → Type 0) (e : ℕ) : S → ℕ → Result R F → Type 0 where
  done : {s : S} → Loop out next Turn e s e (Ok (out s))
  stop : {s : S} {q : ℕ} {f : F} → q < e → Turn s q (Err f) → Loop out next Turn e s q (Err f)
  turn : {s t : S} {q : ℕ} {r : Result R F} → q < e → Turn s q (Ok t) → Loop out next Turn e t (next q) r → Loop out next Turn e s q r

module _ {S R F : Type 0} (out : S → R) (next : ℕ → ℕ) (Turn : S → ℕ → Result S F → Type 0) (e : ℕ) where
  loop_done : {s : S} {q : ℕ} {r : Result R F} → e ≤ q → Loop out next Turn e s q r → r ≡ Ok (out s)
  loop_done h done = refl
  loop_done h (stop l t) = absurd (omega arith)
  loop_done h (turn l t z) = absurd (omega arith)

  loop_turn : {s : S} {q : ℕ} {r : Result R F} → q < e → Loop out next Turn e s q r → Then (Turn s q) (λ t. Loop out next Turn e t (next q)) r
  loop_turn h done = absurd (omega arith)
  loop_turn h (stop l t) = off t
  loop_turn h (turn l t z) = on t z

  pub loop_one : ((s : S) (q : ℕ) → Single (Turn s q)) → (s : S) (q : ℕ) → Single (Loop out next Turn e s q)
  loop_one one _ _ _ u done z = sym (loop_done (omega arith) z)
  loop_one one _ _ _ u (stop l t) z = then_off _ _ (one _ _) _ u t (loop_turn l z)
  loop_one one _ _ _ u (turn l t y) z = then_on _ _ (one _ _) _ _ u t (λ v. loop_one one _ _ _ v y) (loop_turn l z)

-- one result or one fault, and never both
pub record Settled {X F : Type 0} (G : X → Type 0) (B : F → Type 0) : Type 0 where
  pub one_result : (x y : X) → G x → G y → x ≡ y
  pub one_fault : (f g : F) → B f → B g → f ≡ g
  pub one_way : (x : X) (f : F) → G x → B f → ⊥

pub settled : {X F : Type 0} {G : X → Type 0} {B : F → Type 0} (V : Result X F → Type 0) → Single V → ((x : X) → G x → V (Ok x)) → ((f : F) → B f → V (Err f)) → Settled G B
settled V one g b =
    record {
      one_result = λ x y a c. let o = one _ _ (g x a) (g y c) in cc;
      one_fault = λ f h a c. let o = one _ _ (b f a) (b h c) in cc;
      one_way = λ x f a c. ok_err _ _ (one _ _ (g x a) (b f c));
    }
