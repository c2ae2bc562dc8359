-- What inner functions of the walk do to the record of a run.
--   mesh_on    the mesh of the triangulation on which a run stands
--   label_now  the label that its newest corner gets
--   fresh      a run that begins at a point
--   crossed    a run that drops a corner
--   PricesOf   the prices of a corner with a label
--   accepting, finer_mesh    the checks of refining
use Rattle.std.specs.Prelude.{◌≡◌, ℕ, suc, ◌*◌, cond, ◌&&◌, List, [], take, Some, None, Ok, Err, Option, Result, ◌==◌, nat_le, nat_lt}
use Rattle.mesh.specs.Prices.{to_prices}
use Rattle.mesh.specs.Range.{most, between}
use Rattle.mesh.specs.Refusals.{Told, insist}
use Rattle.labelling.specs.Labels.{Rule}
use Rattle.cells.specs.Corners.{outer_wall, real_wall, good_wall, outer_label}
use Rattle.cells.specs.Triangulation.{Shape, Across, wall, moved, Mesh}
use Rattle.path.specs.Legs.{label}
use Rattle.path.specs.Lists.{listed}
use Rattle.path.specs.Path.{Answer, went, ticket, refused, walking, limit}
use Rattle.state.specs.Views.{View, levels_at, arrived_at, Carrier, arriving, entering}

abbrev pub mesh_on : ((g D : ℕ) → Mesh Shape g D) → (v : View) → Mesh Shape v.sight.goods v.sight.mesh
mesh_on T v = T v.sight.goods v.sight.mesh

abbrev pub label_now : Rule → View → ℕ
label_now L v = label v.sight.goods v.sight.mesh L v.start (levels_at v v.newest)

module _ {g D : ℕ} (M : Mesh Shape g D) where
  -- A run with this number begins at the prices x, its total at n: in the start cell, the outer corners with their labels, the point as the newest corner.
  abbrev pub fresh : ℕ → ℕ → List ℕ → View
  fresh number n x =
      record {
        number = number;
        start = x;
        cell = M.start x;
        newest = M.home x;
        sight =
            record {
              stage = walking;
              goods = g;
              mesh = D;
              count = 1;
              total = n;
              corners = listed (suc g) (λ i. (M.corner (M.start x) i, cond (i == M.home x) 0 (outer_label x (M.corner (M.start x) i))));
            };
      }

  -- The run v, whose newest corner has the label l, drops the corner at d, and this lies across: what is answered, and what the run is then.
  abbrev pub crossed : View → ℕ → ℕ → Across Shape → Answer × View
  crossed v d l (wall real_wall) = (ticket v.number v.sight.mesh, arriving v d l)
  crossed v d l (wall outer_wall) = (refused (10, []), v)
  crossed v d l (wall (good_wall j)) = (refused (10, []), v)
  crossed v d l (moved b k) = cond (nat_lt v.sight.total limit) (went, entering v b d k (M.corner b k) l) (refused (10, []), v)

-- The prices x are those of a corner that carries the label l and is not the one at d.
pub record PricesOf (v : View) (l d : ℕ) (x : List ℕ) : Type 0 where
  pub place : ℕ
  pub carrier : Carrier v l d place
  pub prices : take v.sight.goods x ≡ to_prices (levels_at v place)

-- Whether a ticket is accepted, and the place that was dropped at the arrival: 5 for a run that has not arrived, or the ticket of another run or mesh.
abbrev pub accepting_at : Option ℕ → View → ℕ → ℕ → Result ℕ Told
accepting_at None v number mesh = Err (5, [])
accepting_at (Some d) v number mesh = insist (number == v.number && mesh == v.sight.mesh) 5 (Ok d)

abbrev pub accepting : View → ℕ → ℕ → Result ℕ Told
accepting v number mesh = accepting_at (arrived_at v.sight.stage) v number mesh

-- The finer mesh: 6 for a factor outside 2 to 64, then 7 for a mesh above the finest.
abbrev pub finer_mesh : ℕ → ℕ → ℕ → Result ℕ Told
finer_mesh g D f = insist (between 2 64 f) 6 (insist (nat_le (f * D) (most g)) 7 (Ok (f * D)))
