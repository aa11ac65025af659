-- The yield points of a class.
use Rattle.std.specs.Prelude.{◌≡◌, ℕ, Bool, List, [], ◌∷◌, ◌++◌, map, Option, Some, is_some, unwrap_or, flat_map, slice_get}
use Rattle.da_lang.specs.declared.program.Alt.{Alt}
use Rattle.da_lang.specs.declared.program.Class.{Class}
use Rattle.da_lang.specs.declared.program.Item.{Item}
use Rattle.da_lang.specs.declared.program.ItemKind.TheFolds.{fold-Item}
use Rattle.da_lang.specs.declared.program.ItemKind.TheOpen.{ItemKind-F, Alt-F, Item-F, RBranch-F}
use Rattle.da_lang.specs.declared.program.ItemKind.TheViews.{out-Alt}
use Rattle.da_lang.specs.declared.query.Cond.{Cond}

-- an alternative of an `await`: what it waits for, the `some` whose least row it binds, if there is one, and the slots that
-- take the parts of that row
pub record Way : Type 0 where
  pub waits_for : Cond
  pub found : Option ℕ
  pub binds : List ℕ

-- a label; or an `await` with its alternatives, whether it has a block for the time that runs out, and the label directly
-- before it
pub data Point : Type 0 where
  AtLabel : (label : ℕ) → Point
  AtAwait : (ways : List Way) (has_timeout : Bool) (label : Option ℕ) → Point

abbrev pub way_of : Alt → Way
way_of a = record { waits_for = (out-Alt a).cond; found = (out-Alt a).found; binds = (out-Alt a).binds }

abbrev pub ways_of : List Alt → List Way
ways_of alts = map way_of alts

-- an alternative, and the yield points of its block
pub record AltPoints : Type 0 where
  pub way : Way
  pub inside : List Point

abbrev pub Points : Type 0
Points = List Point

abbrev pub points_of : List Points → Points
points_of = flat_map (λ points. points)

-- the yield points in a statement; an `await` comes before those of its alternatives, and then come those of its last block
abbrev pub kind_points_step : ItemKind-F Points AltPoints Points Points → Points
kind_points_step (ItemKind-F.If branches other) = points_of branches ++ points_of other
kind_points_step (ItemKind-F.While e body) = points_of body
kind_points_step (ItemKind-F.For s e body) = points_of body
kind_points_step (ItemKind-F.Call args body) = points_of body
kind_points_step (ItemKind-F.Await alts timeout label) =
    AtAwait (map (λ a. a.way) alts) (is_some timeout) label ∷ (flat_map (λ a. a.inside) alts ++ points_of (unwrap_or timeout []))
kind_points_step (ItemKind-F.Label label) = AtLabel label ∷ []
kind_points_step _ = []

abbrev pub alt_points_step : Alt-F Points AltPoints Points Points → AltPoints
alt_points_step a = record {
  way = record { waits_for = a.cond; found = a.found; binds = a.binds };
  inside = points_of a.body;
}

abbrev pub item_points_step : Item-F Points AltPoints Points Points → Points
item_points_step i = i.kind

abbrev pub branch_points_step : RBranch-F Points AltPoints Points Points → Points
branch_points_step b = points_of b.body

unfoldable pub points_in : Item → Points
points_in = fold-Item Points AltPoints Points Points kind_points_step alt_points_step item_points_step branch_points_step

-- those of a class, in the order of its inlined text: of `run`, then of its handlers
abbrev pub class_points : Class → Points
class_points class = flat_map points_in class.run ++ flat_map (λ h. flat_map points_in h.body) class.handlers

-- the yield point of this number
abbrev pub IsNumbered : Class → ℕ → Point → Type 0
IsNumbered class k point = slice_get (class_points class) k ≡ Some point
