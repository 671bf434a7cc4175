-- The smallest batch has its shape, and is refused where the size of its root is wrong.
use Rattle.std.proofs.Common.{ℕ, zero, suc, ◌<◌, length, refl, arith, lit<, lit≤}
use Rattle.table.specs.Cases.{smallest, SmallestBatch}
use Rattle.table.specs.Shape.{Few, Laid, Sound, layout, first}
use Rattle.table.proofs.Verdict.{formed}

few : (n : ℕ) → Few (smallest n)
few n = record { least = lit≤ tt; most = lit≤ tt }

program : Laid (smallest 3) 0
program =
    record {
      lowest = lit≤ tt;
      highest = lit≤ tt;
      within = lit≤ tt;
      children = (
        λ e. absurd (omega arith),
        λ n. (record { admitted = refl; filled = lit< tt; within = lit≤ tt }, (record { admitted = refl; filled = lit< tt; within = lit≤ tt }, refl)),
      );
    }

classes : Laid (smallest 3) 1
classes =
    record {
      lowest = lit≤ tt;
      highest = lit≤ tt;
      within = lit≤ tt;
      children = (λ e. record { lowest = lit≤ tt; highest = lit≤ tt; elements = (0, lit≤ tt, refl) }, λ n. absurd (n refl));
    }

main : Laid (smallest 3) 2
main = record { lowest = lit≤ tt; highest = lit≤ tt; within = lit≤ tt; children = (λ e. absurd (omega arith), λ n. refl) }

sound : (p : ℕ) → p < length (smallest 3) → Sound (smallest 3) p
sound zero h = record { placed = record { root = λ e. record { program = refl; whole = refl }; laid = program }; worded = refl; shallow = lit≤ tt }
sound (suc zero) h = record { placed = record { root = λ e. absurd (omega arith); laid = classes }; worded = refl; shallow = lit≤ tt }
sound (suc (suc zero)) h = record { placed = record { root = λ e. absurd (omega arith); laid = main }; worded = refl; shallow = lit≤ tt }
sound (suc (suc (suc p))) h = absurd (omega arith)

pub smallest_batch : SmallestBatch
smallest_batch =
    record {
      whole = formed (smallest 3) (few 3) sound;
      damaged = first (few 2) 0 (lit< tt) (λ q h. absurd (omega arith)) (layout (λ p. let w = (p.root refl).whole in omega (arith, w)));
    }
