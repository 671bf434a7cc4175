-- A class that was found by its name has a number among the classes.
use Rattle.std.proofs.Common.{◌≡◌, ℕ, ◌<◌, List, length, Some, ap, arith}
use Rattle.names.specs.Env.{lookup}
use Rattle.names.proofs.Stacking.{lookup_found}
use Rattle.types.specs.declared.class.Class.{Class}
use Rattle.types.specs.Classes.{class_at, Ordered}

pub number_known : (cs : List Class) (x : ℕ) (c : Class) → Ordered cs → lookup (λ k. k.name) cs x ≡ Some c → c.number < length cs
number_known cs x c o e =
    let h = (lookup_found (λ k. k.name) cs x c e).1 in
    let n : class_at cs h.0 ≡ c = h.2 _ in
    let m = o.numbered h.0 h.1 in
    omega (arith, ap (λ k. k.number) n, m, h.1)
