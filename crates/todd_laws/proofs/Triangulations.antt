-- K1 and J1 keep the laws of a triangulation.
use Rattle.std.specs.Prelude.{◌≡◌, ℕ, ◌%◌, ◌≤◌, Bool, true, T, List, length, sum, ◌==◌}
use Rattle.std.proofs.Common.{arith}
use Rattle.std.specs.List.{AllByRecursion}
use Rattle.cells.specs.Triangulation.{Shape, Mesh, Lawful}
use Rattle.todd_laws.specs.K1.{k1}
use Rattle.todd_laws.specs.J1.{j1}
use Rattle.todd_laws.specs.Laws.{K1Lawful, J1Lawful}
use Rattle.todd_laws.proofs.Bridge.{up_k, up_j}
use Rattle.todd_laws.proofs.LawsLemmas as laws
use Rattle.todd_laws.proofs.LawsLemmas.{Member}
use Rattle.todd_laws.proofs.StartLaws as starting
use Rattle.todd_laws.proofs.StartLaws.{Begins}
use Rattle.todd_laws.proofs.AcrossLaws as crossing
use Rattle.todd_laws.proofs.AcrossLaws.{Crosses}
use Rattle.todd_laws.proofs.Members.{k1-member, k1-begins, k1-even, j1-member, j1-begins, j1-even}
use Rattle.todd_laws.proofs.CrossK1 as in-k1
use Rattle.todd_laws.proofs.CrossJ1 as in-j1

lawful : {g D : ℕ} (up : ℕ → Bool) (b : Bool) (M : Mesh Shape g D) → Member up M → Begins up b M → Crosses up M → 1 ≤ g
    → ((c : List ℕ) → length c ≡ g → sum c ≡ D → D % 2 ≡ 0 → AllByRecursion (λ x. x % 2 ≡ 0) c → T (M.admitted c)) → Lawful M
lawful {g} {D} up b M member begins crosses some even = record {
  corners = laws.corners up M member some;
  different = laws.different up M member some;
  same_corners = laws.same_corners up M member some;
  neighbour = λ a c i h. crossing.neighbour up M member crosses some a c i h;
  at_wall = λ a c i h. crossing.at_wall up M member crosses some a c i h;
  no_way = λ a c i h. crossing.no_way up M member crosses some a c i h;
  points = begins.points;
  start_cell = starting.start_cell up b M member begins some;
  home_place = starting.home_place up b M member begins some;
  home_corner = starting.home_corner up b M member begins some;
  starts = starting.starts up b M member begins some;
  only_start = starting.only_start up b M member begins some;
  address_size = laws.address_size up M member some;
  address_small = laws.address_small up M member some;
  address_full = laws.address_full up M member some;
  addressed = laws.addressed up M member some;
  even = even;
}

pub k1-lawful : K1Lawful
k1-lawful g D goods mesh =
    let some : 1 ≤ g = omega arith in
    lawful up_k true (k1 g D) (k1-member g D) (k1-begins g D) (λ s l d same i h. in-k1.crosses g D some s l d same i h) some (λ c p q e a. k1-even g D c p q)

pub j1-lawful : J1Lawful
j1-lawful g D goods mesh =
    let some : 1 ≤ g = omega arith in
    lawful up_j (D % 2 == 1) (j1 g D) (j1-member g D) (j1-begins g D) (λ s l d same i h. in-j1.crosses g D some s l d same i h) some (λ c p q e a. j1-even g D c p q a)
