-- The path of a run, by its opening, its calls, and the meanings of its triangulation and its labelling. Nothing in it comes from a run.
--   Opening, Call           what is asked
--   Leg                     the walk on one mesh
--   Stage, Sight, Answer    where it stands, what a look shows, what a call answers
--   Path                    the legs, the stage, the last answer
--   Steps, Finds, Refines   what a call makes of a path
--   Leads                   the path of an opening and its calls
use Rattle.std.specs.Prelude.{◌≡◌, ℕ, suc, ◌+◌, ◌*◌, ◌^◌, ◌<◌, ◌≤◌, cond, T as Holds, ◌⊎◌, List, [], ◌∷◌, map, length, ◌==◌, ◌≢◌}
use Rattle.mesh.specs.Prices.{to_prices}
use Rattle.mesh.specs.Range.{most, fit_goods, fit_mesh}
use Rattle.mesh.specs.Refusals.{Told}
use Rattle.labelling.specs.Labels.{Rule}
use Rattle.cells.specs.Corners.{Wall, real_wall}
use Rattle.cells.specs.Triangulation.{Shape, Across, wall, moved, Mesh}
use Rattle.path.specs.Legs.{label_at, ProperAt, Drops}
use Rattle.path.specs.Lists.{listed}

-- How a run is opened: its number, the goods, the mesh and the prices of the start point.
pub record Opening : Type 0 where
  pub number : ℕ
  pub goods : ℕ
  pub mesh : ℕ
  pub start : List ℕ

-- A call on a run. Refining names its ticket by the run number and the mesh on it, and a factor.
pub data Call : Type 0 where
  step : Call
  look : Call
  look_for : ℕ → Call
  refine : ℕ → ℕ → ℕ → Call

-- The walk on one mesh: the prices that it started from, the cell it stands in, the cells entered before it (the latest first), the place of the
-- newest corner, and how many steps were granted.
pub record Leg : Type 0 where
  pub mesh : ℕ
  pub start : List ℕ
  pub cell : Shape
  pub before : List Shape
  pub newest : ℕ
  pub steps : ℕ

-- Walking; arrived, with the place of the dropped corner; halted, with the prices of the named corner and its label.
pub data Stage : Type 0 where
  walking : Stage
  arrived : ℕ → Stage
  halted : List ℕ → ℕ → Stage

-- What a look shows. Each corner, by its place, is its levels with its label, 0 where it has none yet.
pub record Sight : Type 0 where
  pub stage : Stage
  pub goods : ℕ
  pub mesh : ℕ
  pub count : ℕ
  pub total : ℕ
  pub corners : List (List ℕ × ℕ)

-- What a call answers: a run began on a mesh (opening, and refining); the step moved; it arrived, with a ticket by its number and mesh; it halted, with
-- the prices of the named corner and its label; what a look shows; the prices that were looked for; a refusal.
pub data Answer : Type 0 where
  began : Answer
  went : Answer
  ticket : ℕ → ℕ → Answer
  named : List ℕ → ℕ → Answer
  sight : Sight → Answer
  prices : List ℕ → Answer
  refused : Told → Answer

-- The latest leg, those before it (the latest first), the stage, and what the last call answered.
pub record Path : Type 0 where
  pub leg : Leg
  pub earlier : List Leg
  pub stage : Stage
  pub said : Answer

-- The cells entered on a leg, the latest first.
abbrev pub entered : Leg → List Shape
entered l = l.cell ∷ l.before

abbrev pub legs : Path → List Leg
legs p = p.leg ∷ p.earlier

-- How many times a cell was entered on the legs.
abbrev pub entries : List Leg → ℕ
entries [] = 0
entries (l ∷ ls) = length (entered l) + entries ls

abbrev pub count_of : Path → ℕ
count_of p = length (entered p.leg)

abbrev pub total_of : Path → ℕ
total_of p = entries (legs p)

-- The total from which on no cell is entered.
abbrev pub limit : ℕ
limit = 2 ^ 62

-- The path q with another answer, and nothing else altered.
abbrev pub saying : Path → Answer → Path
saying q a = record { leg = q.leg; earlier = q.earlier; stage = q.stage; said = a }

abbrev pub refuses : Path → ℕ → Path
refuses q n = saying q (refused (n, []))

-- One more granted step, in the same cell.
abbrev pub stepped : Leg → Leg
stepped l = record { mesh = l.mesh; start = l.start; cell = l.cell; before = l.before; newest = l.newest; steps = suc l.steps }

-- One more granted step, into the cell b with its new corner at k.
abbrev pub enters : Leg → Shape → ℕ → Leg
enters l b k = record { mesh = l.mesh; start = l.start; cell = b; before = entered l; newest = k; steps = suc l.steps }

-- The stage is that of an arrival.
abbrev pub Arrived : Path → Type 0
Arrived q = (d : ℕ) × (q.stage ≡ arrived d)

-- A good: 1 to g.
abbrev pub Good : ℕ → ℕ → Type 0
Good g j = (1 ≤ j) × (j ≤ g)

module _ (T : (g D : ℕ) → Mesh Shape g D) (L : Rule) (o : Opening) where
  -- A leg on the mesh D that begins at the prices c.
  abbrev pub begins : ℕ → List ℕ → Leg
  begins D c = record { mesh = D; start = c; cell = (T o.goods D).start c; before = []; newest = (T o.goods D).home c; steps = 0 }

  -- Of the cell where the leg stands: the corner at a place, its prices, its label; the newest label is proper; a corner is dropped; what lies across.
  abbrev pub corner_on : Leg → ℕ → List ℕ
  corner_on l i = (T o.goods l.mesh).corner l.cell i

  abbrev pub prices_on : Leg → ℕ → List ℕ
  prices_on l i = to_prices (corner_on l i)

  abbrev pub label_on : Leg → ℕ → ℕ
  label_on l i = label_at (T o.goods l.mesh) L l.start l.cell i

  abbrev pub ProperOn : Leg → Type 0
  ProperOn l = ProperAt (T o.goods l.mesh) L l.start l.cell l.newest

  abbrev pub DropsOn : Leg → ℕ → Type 0
  DropsOn l d = Drops (T o.goods l.mesh) L l.start l.cell l.newest d

  abbrev pub across_on : Leg → ℕ → Across Shape
  across_on l d = (T o.goods l.mesh).across l.cell d

  -- The newest label is not proper: the walk halts and names the corner and the label.
  pub record Halts (q p : Path) : Type 0 where
    pub walks : q.stage ≡ walking
    pub improper : ProperOn q.leg → ⊥
    pub then : p ≡ (let l = q.leg in let x = prices_on l l.newest in let n = label_on l l.newest in record { leg = stepped l; earlier = q.earlier; stage = halted x n; said = named x n })

  -- Across the dropped corner lies the real wall: the walk has arrived, and a ticket is answered.
  pub record Arrives (q p : Path) : Type 0 where
    pub walks : q.stage ≡ walking
    pub dropped : ℕ
    pub drops : DropsOn q.leg dropped
    pub real : across_on q.leg dropped ≡ wall real_wall
    pub then : p ≡ record { leg = stepped q.leg; earlier = q.earlier; stage = arrived dropped; said = ticket o.number q.leg.mesh }

  -- Across it lies a cell, and there is room: the cell is entered.
  pub record Moves (q p : Path) : Type 0 where
    pub walks : q.stage ≡ walking
    pub dropped : ℕ
    pub drops : DropsOn q.leg dropped
    pub next : Shape
    pub place : ℕ
    pub moves : across_on q.leg dropped ≡ moved next place
    pub room : total_of q < limit
    pub then : p ≡ record { leg = enters q.leg next place; earlier = q.earlier; stage = walking; said = went }

  -- Across it lies another wall, or a cell for which there is no room.
  abbrev pub Blocked : Path → ℕ → Type 0
  Blocked q d = ((w : Wall) × (across_on q.leg d ≡ wall w) × (w ≢ real_wall)) ⊎ ((b : Shape) × (k : ℕ) × (across_on q.leg d ≡ moved b k) × (limit ≤ total_of q))

  pub data Steps (q p : Path) : Type 0 where
    halts : Halts q p → Steps q p
    arrives : Arrives q p → Steps q p
    moves : Moves q p → Steps q p
    not_walking : (q.stage ≢ walking) → p ≡ refuses q 8 → Steps q p
    blocked : q.stage ≡ walking → (d : ℕ) → DropsOn q.leg d → Blocked q d → p ≡ refuses q 10 → Steps q p

  -- Of a leg that arrived with the corner at d dropped, the corner at i is kept and carries the label j.
  pub record Carries (l : Leg) (d j i : ℕ) : Type 0 where
    pub place : i ≤ o.goods
    pub kept : i ≡ d → ⊥
    pub has : label_on l i ≡ j

  pub data Finds (j : ℕ) (q p : Path) : Type 0 where
    finds : (d i : ℕ) → q.stage ≡ arrived d → Good o.goods j → Carries q.leg d j i → p ≡ saying q (prices (prices_on q.leg i)) → Finds j q p
    not_arrived : (Arrived q → ⊥) → p ≡ refuses q 9 → Finds j q p
    no_good : Arrived q → (Good o.goods j → ⊥) → p ≡ refuses q 11 → Finds j q p

  -- The run has arrived, and the ticket has its number and its mesh.
  pub record Accepted (q : Path) (number mesh : ℕ) : Type 0 where
    pub there : Arrived q
    pub own : number ≡ o.number
    pub latest : mesh ≡ q.leg.mesh

  abbrev pub Factor : ℕ → Type 0
  Factor f = (2 ≤ f) × (f ≤ 64)

  -- The start on the finer mesh: f times the prices of the arrived corner at i.
  abbrev pub finer : Path → ℕ → ℕ → List ℕ
  finer q f i = map (λ x. f * x) (prices_on q.leg i)

  abbrev pub Admits : Path → ℕ → ℕ → Type 0
  Admits q f i = Holds ((T o.goods (f * q.leg.mesh)).admitted (finer q f i))

  pub data Refines (number mesh f : ℕ) (q p : Path) : Type 0 where
    refines : Accepted q number mesh → Factor f → f * q.leg.mesh ≤ most o.goods → (d i : ℕ) → q.stage ≡ arrived d → Carries q.leg d 1 i → Admits q f i
        → p ≡ record { leg = begins (f * q.leg.mesh) (finer q f i); earlier = legs q; stage = walking; said = began } → Refines number mesh f q p
    not_accepted : (Accepted q number mesh → ⊥) → p ≡ refuses q 5 → Refines number mesh f q p
    no_factor : Accepted q number mesh → (Factor f → ⊥) → p ≡ refuses q 6 → Refines number mesh f q p
    too_fine : Accepted q number mesh → Factor f → most o.goods < f * q.leg.mesh → p ≡ refuses q 7 → Refines number mesh f q p
    not_admitted : Accepted q number mesh → Factor f → f * q.leg.mesh ≤ most o.goods → (d i : ℕ) → q.stage ≡ arrived d → Carries q.leg d 1 i → (Admits q f i → ⊥)
        → p ≡ refuses q 4 → Refines number mesh f q p

  -- The newest corner shows its label once the walk has ended on this mesh.
  abbrev pub newest_shown : Stage → ℕ → ℕ
  newest_shown walking n = 0
  newest_shown (arrived d) n = n
  newest_shown (halted x l) n = n

  abbrev pub shown : Path → ℕ → ℕ
  shown q i = cond (i == q.leg.newest) (newest_shown q.stage (label_on q.leg i)) (label_on q.leg i)

  abbrev pub seen : Path → Sight
  seen q =
      record {
        stage = q.stage;
        goods = o.goods;
        mesh = q.leg.mesh;
        count = count_of q;
        total = total_of q;
        corners = listed (suc o.goods) (λ i. (corner_on q.leg i, shown q i));
      }

  -- What a call makes of the path q.
  abbrev pub Does : Call → Path → Path → Type 0
  Does step q p = Steps q p
  Does look q p = p ≡ saying q (sight (seen q))
  Does (look_for j) q p = Finds j q p
  Does (refine number mesh f) q p = Refines number mesh f q p

  -- The opening is in range and its start admitted; the path begins there.
  pub record Opens (p : Path) : Type 0 where
    pub goods : Holds (fit_goods o.goods)
    pub mesh : Holds (fit_mesh o.goods o.mesh)
    pub admits : Holds ((T o.goods o.mesh).admitted o.start)
    pub then : p ≡ record { leg = begins o.mesh o.start; earlier = []; stage = walking; said = began }

  -- The path of the opening and its calls, the latest call first.
  abbrev pub Leads : List Call → Path → Type 0
  Leads [] p = Opens p
  Leads (call ∷ calls) p = (q : Path) × Leads calls q × Does call q p
