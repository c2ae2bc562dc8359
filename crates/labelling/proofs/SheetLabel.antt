-- The label that a sheet gives a point of its own mesh.
use Rattle.std.proofs.Common.{◌≡◌, ℕ, ◌+◌, ◌<◌, true, ◌&&◌, eqb, get_or, take, drop, sum, sym, ap, ◌∙◌, arith}
use Rattle.std.proofs.lemmas.List.{get_or-take}
use Rattle.std.proofs.lemmas.List.Sums.{sum_by-take-drop}
use Rattle.std.proofs.lemmas.Bool.{eq-eqb, and_from, cond-true}
use Rattle.mesh.specs.Prices.{to_levels}
use Rattle.mesh.specs.Points.{goods_of, mesh_of, prices_of}
use Rattle.mesh.specs.declared.point.PricePoint.{PricePoint}
use Rattle.mesh.proofs.Levels.{level-is}
use Rattle.mesh.proofs.PointLevels.{prices-size}
use Rattle.labelling.specs.Sheets.{rule_of}
use Rattle.labelling.specs.declared.sheet.Sheet.{Sheet}

-- The level n of good 2 is the place of the label.
pub sheet_label : (s : Sheet) (p : PricePoint) (n : ℕ) → goods_of p ≡ 2 → mesh_of p ≡ s.mesh → n ≡ sum (drop 1 (prices_of p))
    → get_or s.labels n 0 ≡ rule_of s (goods_of p) (mesh_of p) (prices_of p)
sheet_label s p n two same level =
    let small : n < s.mesh + 1 = omega (arith, sum_by-take-drop (λ n. n) (prices_of p) 1, p.adds_up) in
    let place : n ≡ get_or (to_levels (prices_of p)) 1 0 = level ∙ sym (level-is (prices_of p) 1 (omega (arith, prices-size p))) in
    let own : (eqb (goods_of p) 2 && eqb (mesh_of p) s.mesh) ≡ true = and_from _ _ (eq-eqb (goods_of p) 2 two) (eq-eqb (mesh_of p) s.mesh same) in
    sym (get_or-take (s.mesh + 1) s.labels n 0 small)
    ∙ ap (λ k. get_or (take (s.mesh + 1) s.labels) k 0) place
    ∙ sym (cond-true (eqb (goods_of p) 2 && eqb (mesh_of p) s.mesh) _ 0 own)
