-- A case for each kind of node, and one for all above 6, which are read as false (`specs/Rule.antt`).
--     by_kind_lem
-- Assumes nothing.
use Prim.Native.Nat.{ℕ, zero, suc, ◌≤◌}
use native.Mathlib.Omega.{arith}
use lib.ListN.{get_or}
use Rattle.spec.specs.Logic.{equal, below, equal_registers}
use Rattle.spec.specs.Rule.{NodeFields, Node, false_node, test_node, implies_node, since_node, weak_previous_node, by_kind, node_of}

pub by_kind_lem {ℓ} : (f : NodeFields) (P : ℕ → Node → Type ℓ) → P 0 false_node → P 1 (test_node (equal f.register f.constant))
    → P 2 (test_node (below f.register f.constant)) → P 3 (implies_node f.left f.right) → P 4 (since_node f.left f.right)
    → P 5 (weak_previous_node f.left) → P 6 (test_node (equal_registers f.register f.constant)) → ((k : ℕ) → 7 ≤ k → P k false_node)
    → P f.kind (node_of f)
unfolding node_of
by_kind_lem f P p0 p1 p2 p3 p4 p5 p6 high = go f.kind
  where
    go : (k : ℕ) → P k (get_or (by_kind f) k false_node)
    go zero = p0
    go (suc zero) = p1
    go (suc (suc zero)) = p2
    go (suc (suc (suc zero))) = p3
    go (suc (suc (suc (suc zero)))) = p4
    go (suc (suc (suc (suc (suc zero))))) = p5
    go (suc (suc (suc (suc (suc (suc zero)))))) = p6
    go (suc (suc (suc (suc (suc (suc (suc k))))))) = high (suc (suc (suc (suc (suc (suc (suc k))))))) (omega arith)
