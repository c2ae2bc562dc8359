-- The price point of a real corner.
--   real-levels    the levels of a real corner fit its mesh
--   real-point     so just a real corner is made a price point, and its prices are those of the corner
use Rattle.std.proofs.Common.{◌≡◌, ℕ, suc, ◌≤◌, true, false, ◌&&◌, eqb, leb, List, length, Ok, Err, Result, sym, ap, ◌∙◌, inl, inr, arith, MatchResult}
use Rattle.std.proofs.lemmas.Bool.{and_parts, and_from, le-leb, eqb-true, eq-eqb, ne_eqb}
use Rattle.mesh.specs.Points.{Priced, point_of, levels_fit, point_at_levels, goods_of, mesh_of, prices_of}
use Rattle.mesh.specs.Prices.{first, falls, to_prices}
use Rattle.mesh.specs.Range.{most, fit_goods, fit_mesh}
use Rattle.mesh.specs.Refusals.{told, answered}
use Rattle.mesh.specs.declared.point.PricePoint.{PricePoint}
use Rattle.mesh.specs.declared.refusal.Refusal.{Refusal}
use Rattle.mesh.proofs.Levels.{falls-from, falls_at}
use Rattle.cells.specs.Corners.{Corner}
use Rattle.walk.proofs.Checks.{insist-ok, passed}

module _ (g D : ℕ) (u : List ℕ) (corner : Corner g D u) where
  real-levels : first u ≡ D → levels_fit g D u ≡ true
  real-levels real =
      and_from _ _ (eq-eqb (length u) g corner.size)
      (and_from _ _ (eq-eqb (first u) D real) (falls-from u (λ i h. falls_at u i corner.falls)))

  abbrev there : Priced
  there = record { goods = g; mesh = D; prices = to_prices u }

  pub real-point : (2 ≤ g) × (g ≤ 8) → (1 ≤ D) × (D ≤ most g) → (r : Result PricePoint Refusal) → answered point_of r ≡ point_at_levels g D u
      → MatchResult r (λ p. (eqb (first u) (suc D) ≡ false) × (goods_of p ≡ g) × (mesh_of p ≡ D) × (prices_of p ≡ to_prices u)) (λ t. eqb (first u) (suc D) ≡ true)
  real-point goods mesh (Ok p) e =
      let a = insist-ok (fit_goods g) 1 _ (point_of p) (sym e) in
      let b = insist-ok (fit_mesh g D) 2 _ (point_of p) a.1 in
      let l = insist-ok (levels_fit g D u) 3 _ (point_of p) b.1 in
      let top = (and_parts (eqb (length u) g) (eqb (first u) D && falls u) l.0).1 in
      let real : first u ≡ D = eqb-true (first u) D (and_parts (eqb (first u) D) (falls u) top).0 in
      let is : point_of p ≡ there = cc l.1 in
      (ne_eqb (first u) (suc D) (λ outer. omega arith), ap (λ (x : Priced). x.goods) is, ap (λ (x : Priced). x.mesh) is, ap (λ (x : Priced). x.prices) is)
  real-point goods mesh (Err t) e =
      elim corner.top [
        | inl real ↦
            let in-goods : fit_goods g ≡ true = and_from (leb 2 g) (leb g 8) (le-leb 2 g goods.0) (le-leb g 8 goods.1) in
            let in-mesh : fit_mesh g D ≡ true = and_from (leb 1 D) (leb D (most g)) (le-leb 1 D mesh.0) (le-leb D (most g) mesh.1) in
            let granted : Err (told t) ≡ Ok there = e ∙ passed (fit_goods g) (fit_mesh g D) (levels_fit g D u) (Ok there) in-goods in-mesh (real-levels real) in
            let z : ◌≡◌ {A = ℕ} 0 1 = cc granted in
            absurd (omega arith)
        | inr outer ↦ eq-eqb (first u) (suc D) outer
      ]
