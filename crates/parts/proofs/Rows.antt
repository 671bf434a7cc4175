-- The elements of a list, one after the other.
use Rattle.std.proofs.Common.{◌≡◌, ℕ, zero, suc, ◌+◌, ◌<◌, ◌≤◌, List, arith}
use Rattle.table.specs.Shape.{end_of}
use Rattle.table.specs.declared.kinds.Node.{Node}
use Rattle.table.specs.declared.kinds.Class.{Class}
use Rattle.parts.specs.Parts.{Is, Row}
use Rattle.parts.proofs.Known.{is_child}

module _ (T : List Node) (c : Class) (e : ℕ) where
  -- one more element, where the list goes on
  pub record Next (n q : ℕ) : Type 0 where
    pub here : Is T c q
    pub rest : ℕ
    pub count : n ≡ rest + 1
    pub row : Row T c rest (end_of T q) e
    pub rises : q < end_of T q
    pub stays : end_of T q ≤ e

  pub row_next : (n q : ℕ) → Row T c n q e → q < e → Next n q
  row_next zero q r h = absurd (let f = r.follow in omega arith)
  row_next (suc n) q r h =
      record {
        here = is_child T e q c r.within r.follow.0;
        rest = n;
        count = omega arith;
        row = record { within = r.within; follow = r.follow.1 };
        rises = let a = r.follow.0.filled in omega arith;
        stays = r.follow.0.within;
      }

  pub row_done : (n q : ℕ) → Row T c n q e → e ≤ q → (q ≡ e) × (n ≡ 0)
  row_done zero q r h = (r.follow, omega arith)
  row_done (suc n) q r h = absurd (let a = r.follow.0.filled in let b = r.follow.0.within in omega arith)
