-- A call makes one path of a path.
--   across-once     what lies across the dropped corner is one
--   carries-once    an arrived cell carries a label at one place
--   step_same, find-same, refine-same, call_same    one path, by the kind of call
use Rattle.std.proofs.Common.{◌≡◌, ℕ, ◌≤◌, sym, ap, ◌∙◌, subst, arith}
use Rattle.labelling.specs.Labels.{Rule}
use Rattle.cells.specs.Corners.{Wall}
use Rattle.cells.specs.Triangulation.{Shape, Across, wall, moved, Mesh, Lawful}
use Rattle.path.specs.Path.{Opening, Call, step, look, look_for, refine, Stage, arrived, Path, DropsOn, across_on, Arrives, Moves, Steps, halts, arrives, moves, not_walking, blocked, Carries, Finds, finds, not_arrived, no_good, Admits, Refines, refines, not_accepted, no_factor, too_fine, not_admitted, Does}
use Rattle.path.proofs.Sound.{Ending, Sound}
use Rattle.path.proofs.OneLeg.{drops-once, label-once}
use Rattle.path.proofs.Said.{open-way}

-- A wall is no cell; and a cell that is entered tells the cell and the place.
no_cell : (w : Wall) (b : Shape) (k : ℕ) → ◌≡◌ {A = Across Shape} (wall w) (moved b k) → ⊥
no_cell w b k e = let z : ◌≡◌ {A = ℕ} 0 1 = cc in omega arith

cell-tells : (a b : Shape) (j k : ℕ) → ◌≡◌ {A = Across Shape} (moved a j) (moved b k) → (a ≡ b) × (j ≡ k)
cell-tells a b j k e = (cc, cc)

arrived-tells : (s : Stage) (d e : ℕ) → s ≡ arrived d → s ≡ arrived e → d ≡ e
arrived-tells s d e a b = cc

module _ (T : (g D : ℕ) → Mesh Shape g D) (L : Rule) (o : Opening) (lawful : (g D : ℕ) → 2 ≤ g → 1 ≤ D → Lawful (T g D)) (q : Path) (s : Sound T L o q) where
  dropped-once : (d e : ℕ) → DropsOn T L o q.leg d → DropsOn T L o q.leg e → d ≡ e
  dropped-once = drops-once T L o lawful q.leg s.goods s.leg

  across-once : (d e : ℕ) (x y : Across Shape) → DropsOn T L o q.leg d → DropsOn T L o q.leg e
      → across_on T L o q.leg d ≡ x → across_on T L o q.leg e ≡ y → x ≡ y
  across-once d e x y a b h k = sym h ∙ ap (across_on T L o q.leg) (dropped-once d e a b) ∙ k

  carries-once : (d e j i k : ℕ) → q.stage ≡ arrived d → q.stage ≡ arrived e → Carries T L o q.leg d j i → Carries T L o q.leg e j k → i ≡ k
  carries-once d e j i k a b h m =
      let same : e ≡ d = arrived-tells q.stage e d b a in
      let ending = subst (Ending T L o q.leg) a s.ending in
      label-once T L o lawful q.leg s.goods s.leg d ending.0 i k h.place m.place h.kept (λ is. m.kept (is ∙ sym same)) (h.has ∙ sym m.has)

  arrive_same : (p r : Path) → Arrives T L o q p → Arrives T L o q r → p ≡ r
  arrive_same p r h k =
      let e = dropped-once h.dropped k.dropped h.drops k.drops in h.then ∙ rw e (sym k.then)

  move_same : (p r : Path) → Moves T L o q p → Moves T L o q r → p ≡ r
  move_same p r h k =
      let e = cell-tells _ _ _ _ (across-once h.dropped k.dropped _ _ h.drops k.drops h.moves k.moves) in
      h.then ∙ rw (e.0, e.1) (sym k.then)

  arrives-or-moves : (p r : Path) → Arrives T L o q p → Moves T L o q r → ⊥
  arrives-or-moves p r h k = no_cell _ _ _ (across-once h.dropped k.dropped _ _ h.drops k.drops h.real k.moves)

  step_same : (p r : Path) → Steps T L o q p → Steps T L o q r → p ≡ r
  step_same p r (halts h) (halts k) = h.then ∙ sym k.then
  step_same p r (halts h) (arrives k) = absurd (h.improper k.drops.proper)
  step_same p r (halts h) (moves k) = absurd (h.improper k.drops.proper)
  step_same p r (halts h) (not_walking n e) = absurd (n h.walks)
  step_same p r (halts h) (blocked w d drops b e) = absurd (h.improper drops.proper)
  step_same p r (arrives h) (halts k) = absurd (k.improper h.drops.proper)
  step_same p r (arrives h) (arrives k) = arrive_same p r h k
  step_same p r (arrives h) (moves k) = absurd (arrives-or-moves p r h k)
  step_same p r (arrives h) (not_walking n e) = absurd (n h.walks)
  step_same p r (arrives h) (blocked w d drops b e) = absurd (open-way T L o lawful q s d drops b)
  step_same p r (moves h) (halts k) = absurd (k.improper h.drops.proper)
  step_same p r (moves h) (arrives k) = absurd (arrives-or-moves r p k h)
  step_same p r (moves h) (moves k) = move_same p r h k
  step_same p r (moves h) (not_walking n e) = absurd (n h.walks)
  step_same p r (moves h) (blocked w d drops b e) = absurd (open-way T L o lawful q s d drops b)
  step_same p r (not_walking n e) (halts k) = absurd (n k.walks)
  step_same p r (not_walking n e) (arrives k) = absurd (n k.walks)
  step_same p r (not_walking n e) (moves k) = absurd (n k.walks)
  step_same p r (not_walking n e) (not_walking m f) = e ∙ sym f
  step_same p r (not_walking n e) (blocked w d drops b f) = absurd (n w)
  step_same p r (blocked w d drops b e) k = absurd (open-way T L o lawful q s d drops b)

  find-same : (j : ℕ) (p r : Path) → Finds T L o j q p → Finds T L o j q r → p ≡ r
  find-same j p r (finds d i a g c e) (finds x k b h m f) = let same = carries-once d x j i k a b c m in e ∙ rw same (sym f)
  find-same j p r (finds d i a g c e) (not_arrived n f) = absurd (n (d, a))
  find-same j p r (finds d i a g c e) (no_good b n f) = absurd (n g)
  find-same j p r (not_arrived n e) (finds d i a g c f) = absurd (n (d, a))
  find-same j p r (not_arrived n e) (not_arrived m f) = e ∙ sym f
  find-same j p r (not_arrived n e) (no_good b m f) = absurd (n b)
  find-same j p r (no_good b n e) (finds d i a g c f) = absurd (n g)
  find-same j p r (no_good b n e) (not_arrived m f) = absurd (m b)
  find-same j p r (no_good b n e) (no_good c m f) = e ∙ sym f

  refine-same : (number mesh f : ℕ) (p r : Path) → Refines T L o number mesh f q p → Refines T L o number mesh f q r → p ≡ r
  refine-same number mesh f p r (refines a t l d i at c ok e) (refines b u m x k to w fit g) = let same = carries-once d x 1 i k at to c w in e ∙ rw same (sym g)
  refine-same number mesh f p r (refines a t l d i at c ok e) (not_accepted z g) = absurd (z a)
  refine-same number mesh f p r (refines a t l d i at c ok e) (no_factor b z g) = absurd (z t)
  refine-same number mesh f p r (refines a t l d i at c ok e) (too_fine b u z g) = absurd (omega arith)
  refine-same number mesh f p r (refines a t l d i at c ok e) (not_admitted b u m x k to w z g) = absurd (z (subst (Admits T L o q f) (carries-once d x 1 i k at to c w) ok))
  refine-same number mesh f p r (not_accepted n e) (refines b u m x k to w fit g) = absurd (n b)
  refine-same number mesh f p r (not_accepted n e) (not_accepted z g) = e ∙ sym g
  refine-same number mesh f p r (not_accepted n e) (no_factor b z g) = absurd (n b)
  refine-same number mesh f p r (not_accepted n e) (too_fine b u z g) = absurd (n b)
  refine-same number mesh f p r (not_accepted n e) (not_admitted b u m x k to w z g) = absurd (n b)
  refine-same number mesh f p r (no_factor a n e) (refines b u m x k to w fit g) = absurd (n u)
  refine-same number mesh f p r (no_factor a n e) (not_accepted z g) = absurd (z a)
  refine-same number mesh f p r (no_factor a n e) (no_factor b z g) = e ∙ sym g
  refine-same number mesh f p r (no_factor a n e) (too_fine b u z g) = absurd (n u)
  refine-same number mesh f p r (no_factor a n e) (not_admitted b u m x k to w z g) = absurd (n u)
  refine-same number mesh f p r (too_fine a t n e) (refines b u m x k to w fit g) = absurd (omega arith)
  refine-same number mesh f p r (too_fine a t n e) (not_accepted z g) = absurd (z a)
  refine-same number mesh f p r (too_fine a t n e) (no_factor b z g) = absurd (z t)
  refine-same number mesh f p r (too_fine a t n e) (too_fine b u z g) = e ∙ sym g
  refine-same number mesh f p r (too_fine a t n e) (not_admitted b u m x k to w z g) = absurd (omega arith)
  refine-same number mesh f p r (not_admitted a t l d i at c n e) (refines b u m x k to w fit g) = absurd (n (subst (Admits T L o q f) (carries-once x d 1 k i to at w c) fit))
  refine-same number mesh f p r (not_admitted a t l d i at c n e) (not_accepted z g) = absurd (z a)
  refine-same number mesh f p r (not_admitted a t l d i at c n e) (no_factor b z g) = absurd (z t)
  refine-same number mesh f p r (not_admitted a t l d i at c n e) (too_fine b u z g) = absurd (omega arith)
  refine-same number mesh f p r (not_admitted a t l d i at c n e) (not_admitted b u m x k to w z g) = e ∙ sym g

  pub call_same : (call : Call) (p r : Path) → Does T L o call q p → Does T L o call q r → p ≡ r
  call_same step p r h k = step_same p r h k
  call_same look p r h k = h ∙ sym k
  call_same (look_for j) p r h k = find-same j p r h k
  call_same (refine number mesh f) p r h k = refine-same number mesh f p r h k
