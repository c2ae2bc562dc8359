-- The start on a finer mesh: f times the prices of an arrived corner.
--   sum-times       f times some numbers add up to f times their sum
--   mesh-there      the mesh is in range
--   prices-there    the prices of a corner that an arrived cell keeps are as many as the goods, and add up to the mesh
--   times-small     f times one of them fits 32 bits
use Rattle.std.proofs.Common.{◌≡◌, ℕ, ◌+◌, ◌*◌, ◌<◌, ◌≤◌, List, [], ◌∷◌, map, length, get_or, sum, sym, refl, ap, ◌∙◌, subst, mul-le-mul_left, arith}
use Rattle.std.proofs.lemmas.List.Sums.{sum_by-cons, get_or-le-sum_by}
use Rattle.mesh.specs.Range.{most}
use Rattle.mesh.proofs.PointPrices.{most-small}
use Rattle.mesh.proofs.Levels.{length-prices, sum-prices}
use Rattle.labelling.specs.Labels.{Rule}
use Rattle.cells.specs.Triangulation.{Shape, Mesh, Lawful}
use Rattle.path.specs.Path.{Opening, Call, arrived, Path, corner_on, prices_on, Leads}
use Rattle.path.proofs.Powers.{in-range}
use Rattle.path.proofs.Sound.{sound}
use Rattle.path.proofs.Theorems.{claimed}
use Rattle.walk.specs.Showing.{standing}
use Rattle.walk.proofs.Standing.{cell-there}

pub sum-times : (f : ℕ) (xs : List ℕ) → sum (map (λ y. f * y) xs) ≡ f * sum xs
sum-times f [] = omega arith
sum-times f (x ∷ xs) =
    let rest = sum-times f xs in
    let e : f * x + sum (map (λ y. f * y) xs) ≡ f * (x + sum xs) = omega arith in
    sum_by-cons (λ n. n) (f * x) (map (λ y. f * y) xs) ∙ e ∙ ap (λ n. f * n) (sym (sum_by-cons (λ n. n) x xs))

module _ (T : (g D : ℕ) → Mesh Shape g D) (L : Rule) (o : Opening) (lawful : (g D : ℕ) → 2 ≤ g → 1 ≤ D → Lawful (T g D)) (calls : List Call) (p : Path)
    (leads : Leads T L o calls p) where
  pub mesh-there : (1 ≤ p.leg.mesh) × (p.leg.mesh ≤ most o.goods)
  mesh-there = in-range 1 (most o.goods) p.leg.mesh (sound T L o lawful calls p leads).leg.mesh

  pub prices-there : (d i : ℕ) → p.stage ≡ arrived d → i ≤ o.goods → (i ≡ d → ⊥)
      → (length (prices_on T L o p.leg i) ≡ o.goods) × (sum (prices_on T L o p.leg i) ≡ p.leg.mesh)
  prices-there d i there place kept =
      let two = (in-range 2 8 o.goods (sound T L o lawful calls p leads).goods).0 in
      let corner = (lawful o.goods p.leg.mesh two mesh-there.0).corners p.leg.cell (cell-there T L o lawful calls p leads (standing T L o p) refl) i place in
      let real = (((claimed T L o lawful calls p leads).arrived_cell d there).keeps i place kept).1.real in
      (length-prices (corner_on T L o p.leg i) ∙ corner.size, sum-prices (corner_on T L o p.leg i) corner.falls ∙ real)

  pub times-small : (d i f : ℕ) → p.stage ≡ arrived d → i ≤ o.goods → (i ≡ d → ⊥) → f * p.leg.mesh ≤ most o.goods → (k : ℕ) → k < o.goods
      → f * get_or (prices_on T L o p.leg i) k 0 ≤ 4294967295
  times-small d i f there place kept fits k below =
      let x = prices_on T L o p.leg i in
      let at = prices-there d i there place kept in
      let one : get_or x k 0 ≤ p.leg.mesh = subst (λ n. get_or x k 0 ≤ n) at.1 (get_or-le-sum_by (λ n. n) x k 0 (omega (arith, at.0))) in
      let few : most o.goods ≤ 16384 = most-small o.goods in
      omega (arith, mul-le-mul_left f one)
