-- The labels at all places of a cell but one: proper and pairwise different.
--   settled-start   in the start cell, at all places but that of the start point
--   settled-kept    in a cell where a corner is dropped, at all places but its own
--   settled-next    in the cell across, at all places but that of the new corner
--   settled-each    so each good labels one of them
use Rattle.std.proofs.Common.{◌≡◌, ℕ, suc, ◌≤◌, T, List, sym, ap, ◌∙◌, subst, inl, inr}
use Rattle.std.proofs.lemmas.Bool.{cases_eq}
use Rattle.mesh.specs.Prices.{first, to_prices}
use Rattle.labelling.specs.Labels.{Rule, Proper}
use Rattle.cells.specs.Corners.{skip, outer_label}
use Rattle.cells.specs.Triangulation.{Shape, Mesh, Lawful, Neighbour}
use Rattle.path.specs.Legs.{label, label_at, ProperAt, Drops}
use Rattle.path.proofs.Trail.{Settled}
use Rattle.cells.proofs.Places.{among, among_below, among-apart, skip-le, skip-other, skip-apart, skip-among}
use Rattle.path.proofs.Outer.{outer-label, outer-proper}
use Rattle.path.proofs.Sought.{each-found}

module _ {g D : ℕ} (M : Mesh Shape g D) (L : Rule) (c : List ℕ) where
  pub settled-each : (a : Shape) (n : ℕ) → n ≤ g → Settled M L c a n
      → (j : ℕ) → 1 ≤ j → j ≤ g → (i : ℕ) × (i ≤ g) × (i ≡ n → ⊥) × (label_at M L c a i ≡ j)
  settled-each a n place s j low high =
      each-found g n (label_at M L c a) place (λ i h ne. (s.proper i h ne).low) (λ i h ne. (s.proper i h ne).high) s.apart j low high

  -- The label at the newest place is that of the dropped one, so that the dropped place is the only one with it.
  only-dropped : (a : Shape) (n d : ℕ) → Settled M L c a n → Drops M L c a n d
      → (i k : ℕ) → k ≤ g → i ≡ n → (k ≡ n → ⊥) → label_at M L c a i ≡ label_at M L c a k → d ≡ k
  only-dropped a n d s drops i k hk here other e =
      s.apart d k drops.place hk drops.other other (drops.same ∙ ap (label_at M L c a) (sym here) ∙ e)

  pub settled-kept : (a : Shape) (n d : ℕ) → Settled M L c a n → Drops M L c a n d → Settled M L c a d
  settled-kept a n d s drops =
      record {
        proper = λ i h ne. elim (cases_eq i n) [
          | inl e ↦ subst (ProperAt M L c a) (sym e) drops.proper
          | inr o ↦ s.proper i h o
        ];
        apart = λ i k hi hk ni nk e. elim (cases_eq i n) [
          | inl p ↦ elim (cases_eq k n) [
            | inl q ↦ p ∙ sym q
            | inr q ↦ absurd (nk (sym (only-dropped a n d s drops i k hk p q e)))
          ]
          | inr p ↦ elim (cases_eq k n) [
            | inl q ↦ absurd (ni (sym (only-dropped a n d s drops k i hi q p (sym e))))
            | inr q ↦ s.apart i k hi hk p q e
          ]
        ];
      }

  module _ (b : Shape) (d : ℕ) (a : Shape) (n : ℕ) (next : Neighbour M b d a n) where
    -- Where the corner at the place i of a stands in b.
    from : ℕ → ℕ
    from i = skip d (among n i)

    from_le : (i : ℕ) → i ≤ g → (i ≡ n → ⊥) → from i ≤ g
    unfolding from
    from_le i h ne = skip-le g d (among n i) (among_below g n i next.place h ne)

    from-other : (i : ℕ) → from i ≡ d → ⊥
    unfolding from
    from-other i = skip-other d (among n i)

    from-apart : (i k : ℕ) → (i ≡ n → ⊥) → (k ≡ n → ⊥) → from i ≡ from k → i ≡ k
    unfolding from
    from-apart i k ni nk e = among-apart n i k ni nk (skip-apart d (among n i) (among n k) e)

    from-corner : (i : ℕ) → i ≤ g → (i ≡ n → ⊥) → M.corner b (from i) ≡ M.corner a i
    unfolding from
    from-corner i h ne = next.shared (among n i) (among_below g n i next.place h ne) ∙ ap (M.corner a) (skip-among n i ne)

    pub settled-next : Settled M L c b d → Settled M L c a n
    settled-next s =
        record {
          proper = λ i h ne. subst (λ v. Proper g (to_prices v) (label g D L c v)) (from-corner i h ne) (s.proper (from i) (from_le i h ne) (from-other i));
          apart = λ i k hi hk ni nk e. from-apart i k ni nk (s.apart (from i) (from k) (from_le i hi ni) (from_le k hk nk) (from-other i) (from-other k)
              (ap (label g D L c) (from-corner i hi ni) ∙ e ∙ sym (ap (label g D L c) (from-corner k hk nk))));
        }

  module _ (lawful : Lawful M) (admits : T (M.admitted c)) where
    -- An outer corner of a cell has a proper label.
    pub outer-at : (a : Shape) → M.is_cell a → (i : ℕ) → i ≤ g → first (M.corner a i) ≡ suc D → ProperAt M L c a i
    outer-at a cell i h outer =
        let p = lawful.points c admits in
        outer-proper g D L c (M.corner a i) p.0 p.1 (lawful.corners a cell i h) outer

    start-outer : (i : ℕ) → i ≤ g → (i ≡ M.home c → ⊥) → first (M.corner (M.start c) i) ≡ suc D
    start-outer i h ne =
        let o = (lawful.starts c admits).outer (among (M.home c) i) (among_below g (M.home c) i (lawful.home_place c admits) h ne) in
        ap (λ p. first (M.corner (M.start c) p)) (sym (skip-among (M.home c) i ne)) ∙ o

    -- Its label as the start laws say it.
    start-label : (i : ℕ) → i ≤ g → (i ≡ M.home c → ⊥) → outer_label c (M.corner (M.start c) (skip (M.home c) (among (M.home c) i))) ≡ label_at M L c (M.start c) i
    start-label i h ne =
        ap (λ p. outer_label c (M.corner (M.start c) p)) (skip-among (M.home c) i ne)
        ∙ sym (outer-label g D L c (M.corner (M.start c) i) (start-outer i h ne))

    pub settled-start : Settled M L c (M.start c) (M.home c)
    settled-start =
        let home = lawful.home_place c admits in
        record {
          proper = λ i h ne. outer-at (M.start c) (lawful.start_cell c admits) i h (start-outer i h ne);
          apart = λ i k hi hk ni nk e. among-apart (M.home c) i k ni nk
              ((lawful.starts c admits).apart (among (M.home c) i) (among (M.home c) k) (among_below g (M.home c) i home hi ni) (among_below g (M.home c) k home hk nk)
              (start-label i hi ni ∙ e ∙ sym (start-label k hk nk)));
        }
