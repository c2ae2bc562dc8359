-- The laws of the family.
use Rattle.std.specs.Prelude.{◌≡◌, ℕ, suc, ◌+◌, ◌-◌, ◌<◌, ◌≤◌, Bool, true, false}
use Rattle.std.proofs.Common.{sym, subst, inl, inr, arith}
use Rattle.std.proofs.lemmas.Bool.{cases_eq}
use Rattle.todd_laws.proofs.Family.{Cell, corner, Corner, Valid, across, Same, Right, under, Carries, start}
use Rattle.todd_laws.proofs.Corners.{has-corners, from-corners, stand-apart, one_cell}
use Rattle.todd_laws.proofs.Addresses.{lo_small, one_address}
use Rattle.todd_laws.proofs.Starts.{start_fine, start-labels, start-only}
use Rattle.todd_laws.proofs.Middle.{middle-right}
use Rattle.todd_laws.proofs.Ends.{end-right}

module _ (g D : ℕ) (up : ℕ → Bool) (some : 1 ≤ g) where
  -- A valid cell has corners, and only a valid cell has.
  pub valid-corners : (c : Cell) → Valid g D up c → (k : ℕ) → k ≤ g → Corner g D (corner up c k)
  valid-corners = has-corners g D up some

  pub corners-apart : (c : Cell) → Valid g D up c → (k m : ℕ) → k ≤ g → m ≤ g → ((j : ℕ) → j < g → corner up c k j ≡ corner up c m j) → k ≡ m
  corners-apart = stand-apart g D up some

  -- Cells with the same corners are the same.
  pub same_corners : (c d : Cell) → Valid g D up c → Valid g D up d
      → ((k : ℕ) → k ≤ g → (m : ℕ) × (m ≤ g) × ((j : ℕ) → j < g → corner up c k j ≡ corner up d m j))
      → ((k : ℕ) → k ≤ g → (m : ℕ) × (m ≤ g) × ((j : ℕ) → j < g → corner up d k j ≡ corner up c m j))
      → Same g c d
  same_corners = one_cell g D up some

  -- What lies across a place is as it should be.
  pub across-right : (c : Cell) → Valid g D up c → (i : ℕ) → i ≤ g → Right g D up c i (across g up c i)
  across-right c valid i low =
      elim (cases_eq i 0) [
        | inl e ↦ subst (λ z. Right g D up c z (across g up c z)) (sym e) (end-right g D up some c valid true)
        | inr n ↦ elim (cases_eq i g) [
          | inl e ↦ subst (λ z. Right g D up c z (across g up c z)) (sym e) (end-right g D up some c valid false)
          | inr o ↦
              let e : suc (i - 1) ≡ i = omega arith in
              subst (λ z. Right g D up c z (across g up c z)) e (middle-right g D up some c valid (i - 1) (omega arith))
        ]
      ]

  -- Cells with the same smaller values along their orders are the same.
  pub same_address : (c d : Cell) → Valid g D up c → Valid g D up d → ((k : ℕ) → k < g → c.lo (c.ord k) ≡ d.lo (d.ord k)) → Same g c d
  same_address = one_address g D up

  pub address_small : (c : Cell) → Valid g D up c → (k : ℕ) → k < g → c.lo (c.ord k) ≤ D
  address_small c valid k low = lo_small g D up c valid (c.ord k) (valid.perm.ord-below k low)

  -- The start cell, and that no other cell carries all outer labels.
  module _ (c w : ℕ → ℕ) (b : Bool) (levels : (j : ℕ) → j < g → w j ≡ c j + under g w (suc j)) (top : w 0 ≡ D) (ways : (j : ℕ) → j < g → up (w j) ≡ b) where
    pub start-valid : Valid g D up (start g b w)
    start-valid = start_fine g D up some c w b levels top ways

    pub start-carries : Carries g D up c (start g b w)
    start-carries = start-labels g D up some c w b levels top ways

    pub start-alone : (d : Cell) → Valid g D up d → Carries g D up c d → Same g d (start g b w)
    start-alone = start-only g D up some c w b levels top ways

  -- The other way: an order whose corners are corners is valid.
  pub valid-from : (c : Cell) → ((j : ℕ) → j < g → c.at j < g) → ((k : ℕ) → k < g → c.ord k < g) → ((k : ℕ) → k < g → c.at (c.ord k) ≡ k)
      → ((j : ℕ) → j < g → c.ord (c.at j) ≡ j) → ((k : ℕ) → k ≤ g → Corner g D (corner up c k)) → Valid g D up c
  valid-from c at-below ord-below at-ord ord-at =
      from-corners g D up some c (record { ord-below = ord-below; at-below = at-below; at-ord = at-ord; ord-at = ord-at })
