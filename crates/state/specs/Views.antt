-- What the record of a run says, and how a walk changes it.
--   View                           all of it, as a reader thinks of it
--   view_of                         the view of a record
--   levels_at, label_at              the corner at a place
--   bare, placing                  a run that begins: before its corners are placed, and with one of them placed
--   halting, arriving, entering    what a step does
use Rattle.std.specs.Prelude.{◌≡◌, ℕ, suc, ◌-◌, ◌≤◌, Bool, true, false, cond, ◌&&◌, List, [], map, take, replicate, Some, None, Option, ◌==◌, ◌≢◌, nat_le, nat_lt, slice_index_or, slice_set}
use Rattle.mesh.specs.Points.{prices_of}
use Rattle.mesh.specs.declared.point.PricePoint.{PricePoint}
use Rattle.mesh.specs.Prices.{price, first, to_prices}
use Rattle.cells.specs.Cells.{shape_of}
use Rattle.cells.specs.Corners.{outer_label, skip}
use Rattle.cells.specs.Triangulation.{Shape}
use Rattle.path.specs.Lists.{listed}
use Rattle.path.specs.Path.{Sight, Stage as PathStage, walking, arrived, halted}
use Rattle.state.specs.declared.corner.Corner.{Corner}
use Rattle.state.specs.declared.record.Stage.{Stage}
use Rattle.state.specs.declared.record.Stage.TheVariants.{Walking, Arrived, Halted}
use Rattle.state.specs.declared.record.State.{State}

-- What a look shows, and the rest: the number of the run, the prices of the start point, the cell, and the place of the newest corner.
pub record View : Type 0 where
  pub number : ℕ
  pub start : List ℕ
  pub cell : Shape
  pub newest : ℕ
  pub sight : Sight

-- A corner as a view has it: its levels and its label.
abbrev pub Labelled : Type 0
Labelled = List ℕ × ℕ

abbrev pub corner_of : ℕ → Corner → Labelled
corner_of g c = (take g c.levels, c.label)

-- The corners of a cell: the first g + 1 of a table.
abbrev pub corners_of : ℕ → List Corner → List Labelled
corners_of g table = take (suc g) (map (corner_of g) table)

abbrev pub stage_of : ℕ → Stage → PathStage
stage_of g Walking = walking
stage_of g (Arrived d) = arrived d
stage_of g (Halted h) = halted (take g h.prices) h.label

abbrev pub goods_of : State → ℕ
goods_of s = s.start.grid.goods

abbrev pub sight_of : State → Sight
sight_of s =
    record {
      stage = stage_of (goods_of s) s.stage;
      goods = goods_of s;
      mesh = s.start.grid.mesh;
      count = s.count;
      total = s.total;
      corners = corners_of (goods_of s) s.corners.records;
    }

abbrev pub view_of : State → View
view_of s = record { number = s.number; start = prices_of s.start; cell = shape_of (goods_of s) s.cell; newest = s.newest; sight = sight_of s }

-- The corner at a place, its levels, its label.
abbrev pub corner_at : List Labelled → ℕ → Labelled
corner_at cs i = slice_index_or cs i ([], 0)

abbrev pub levels_at : View → ℕ → List ℕ
levels_at v i = (corner_at v.sight.corners i).0

abbrev pub label_at : View → ℕ → ℕ
label_at v i = (corner_at v.sight.corners i).1

-- The stage is walking; the place that was dropped, where it is that of an arrival.
abbrev pub walks_at : PathStage → Bool
walks_at walking = true
walks_at (arrived d) = false
walks_at (halted x l) = false

abbrev pub arrived_at : PathStage → Option ℕ
arrived_at walking = None
arrived_at (arrived d) = Some d
arrived_at (halted x l) = None

-- The test of a proper label at the levels u.
abbrev pub is_proper : ℕ → List ℕ → ℕ → Bool
is_proper g u l = nat_le 1 l && (nat_le l g && nat_lt 0 (price (to_prices u) l))

-- No corner but the one at e carries the label l; the corner at i, which is not at e, does.
abbrev pub NoCarrier : View → ℕ → ℕ → Type 0
NoCarrier v l e = (i : ℕ) → i ≤ v.sight.goods → (i ≢ e) → label_at v i ≢ l

abbrev pub Carrier : View → ℕ → ℕ → ℕ → Type 0
Carrier v l e i = (i ≤ v.sight.goods) × (i ≢ e) × (label_at v i ≡ l)

-- The view v with another newest place, another stage and other corners.
abbrev pub with : View → ℕ → PathStage → List Labelled → View
with v n st cs =
    record {
      number = v.number;
      start = v.start;
      cell = v.cell;
      newest = n;
      sight = record { stage = st; goods = v.sight.goods; mesh = v.sight.mesh; count = v.sight.count; total = v.sight.total; corners = cs };
    }

-- A run that begins on a mesh with the total n, before its corners are placed.
abbrev pub bare : ℕ → PricePoint → Shape → ℕ → View
bare number start cell n =
    record {
      number = number;
      start = prices_of start;
      cell = cell;
      newest = 0;
      sight =
          record {
            stage = walking;
            goods = start.grid.goods;
            mesh = start.grid.mesh;
            count = 1;
            total = n;
            corners = replicate (suc start.grid.goods) (replicate start.grid.goods 0, 0);
          };
    }

-- The corner at i gets the levels u: it is the newest if they are real, and gets its outer label if they are not.
abbrev pub placing : View → ℕ → List ℕ → View
placing v i u =
    cond (first u == v.sight.mesh)
    (with v i v.sight.stage (slice_set v.sight.corners i (u, 0)))
    (with v v.newest v.sight.stage (slice_set v.sight.corners i (u, outer_label v.start u)))

-- The corners with the label l at the place i.
abbrev pub labelling : List Labelled → ℕ → ℕ → List Labelled
labelling cs i l = slice_set cs i ((corner_at cs i).0, l)

-- The newest corner gets the label l, and the run halts there.
abbrev pub halting : View → ℕ → View
halting v l = with v v.newest (halted (to_prices (levels_at v v.newest)) l) (labelling v.sight.corners v.newest l)

-- The newest corner gets the label l, and the run arrives with the corner at d dropped.
abbrev pub arriving : View → ℕ → ℕ → View
arriving v d l = with v v.newest (arrived d) (labelling v.sight.corners v.newest l)

-- The old place of the corner at i, where the one at d is dropped and a new one put in at k.
abbrev pub came_from : ℕ → ℕ → ℕ → ℕ
came_from d k i = skip d (cond (nat_lt k i) (i - 1) i)

-- The corners with the one at d dropped and the levels u put in at k, with no label.
abbrev pub shifted : ℕ → List Labelled → ℕ → ℕ → List ℕ → List Labelled
shifted g cs d k u = listed (suc g) (λ i. cond (i == k) (u, 0) (corner_at cs (came_from d k i)))

-- The newest corner gets the label l; then the cell b is entered, with the corner at d dropped and that of the levels u put in at k.
abbrev pub entering : View → Shape → ℕ → ℕ → List ℕ → ℕ → View
entering v b d k u l =
    record {
      number = v.number;
      start = v.start;
      cell = b;
      newest = k;
      sight =
          record {
            stage = v.sight.stage;
            goods = v.sight.goods;
            mesh = v.sight.mesh;
            count = suc v.sight.count;
            total = suc v.sight.total;
            corners = shifted v.sight.goods (labelling v.sight.corners v.newest l) d k u;
          };
    }
