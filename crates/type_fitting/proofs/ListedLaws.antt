-- Demands are put into a table one by one.
use denote.Bor.{Bor}
use Rattle.std.specs.Prelude.{◌≡◌, refl, ℕ, zero, suc, ◌+◌, ◌<◌, ◌≤◌, List, [], ◌∷◌, ◌++◌, map, length, replicate, Some, slice_get}
use Rattle.std.specs.List.{AllByRecursion}
use Rattle.std.proofs.Common.{◌∙◌, ap, sym, subst, arith, take, get_or}
use Rattle.std.proofs.lemmas.List.{length-map, length-replicate}
use Rattle.type_table.specs.declared.form.Form.{Form}
use Rattle.type_table.specs.declared.form.Form.TheVariants as f
use Rattle.type_table.specs.Fits.{Meaning, Fits, IsTable}
use Rattle.type_table.proofs.AgreeLaws.{agree_then, fits_opens, table_opens}
use Rattle.type_table.proofs.TableLaws.{read_at}
use Rattle.type_choice.proofs.ListLaws.{all_at, get_map}
use Rattle.type_demands.specs.declared.demand.Demand.{Demand}
use Rattle.type_fitting.specs.declared.table.Note.{Note}
use Rattle.type_fitting.specs.declared.table.Table.{Table}
use Rattle.type_fitting.specs.Fit.{Knows}
use Rattle.type_fitting.specs.Listed.{is_met, Listed}
use Rattle.type_fitting.specs.Notes.{Puts}
use Rattle.type_fitting.proofs.ListLaws.{take_one, take_past}
use Rattle.type_fitting.proofs.MetLaws.{met_agree, knows_more, all_met_push, all_met_split}

pub replicate_more : {A : Type 0} (n : ℕ) (x : A) → replicate (n + 1) x ≡ replicate n x ++ x ∷ []
replicate_more zero x = refl
replicate_more {A} (suc n) x = let e : suc n + 1 ≡ suc (n + 1) = omega arith in ap (λ c. replicate c x) e ∙ ap (λ xs. x ∷ xs) (replicate_more n x)

-- nothing is demanded
open_table : (count : ℕ) → IsTable (replicate count f.Open)
open_table count = table_opens [] count (λ k form e. absurd (cc)) (omega arith)

open_fits : (count : ℕ) (m : Meaning) → Fits m (replicate count f.Open)
open_fits count m = fits_opens [] count m (λ k form e. absurd (cc))

abbrev pub opens : ℕ → Table
opens count = record { forms = replicate count f.Open; equations = []; notes = [] }

none_listed : (count : ℕ) → Listed count [] (opens count)
none_listed count =
    record {
      sound = record { forms = open_table count; pairs = tt; notes = tt };
      counts = omega (arith, length-replicate count f.Open);
      gives = λ m h. refl;
      takes = λ m all. (m, (λ k below. refl), record { fits = open_fits count m; same = tt; noted = tt });
    }

-- one more
pub more_listed : (count : ℕ) (demands : List Demand) (x : Demand) (old new : Table) → Knows count x → Listed count demands old → Puts old new (is_met x) → Listed count (demands ++ x ∷ []) new
more_listed count demands x old new knows l p =
    record {
      sound = p.sound;
      counts = omega (arith, l.counts, p.grows);
      gives = λ m h. let (before, is) = p.gives m h in all_met_push m demands x (l.gives m before) is;
      takes = λ m all.
          let parts = all_met_split m demands x all in
          let (n, agree, holds) = l.takes m parts.0 in
          let (o, further, holds_now) = p.takes n holds (met_agree count m n agree x knows ∙ parts.1) in
          (o, agree_then count (length old.forms) m n o l.counts agree further, holds_now);
    }

-- the loop
pub listing_begins : (count : ℕ) (demands : List Demand) (forms : List Form) (equations : List (ℕ × ℕ)) (notes : List Note) → forms ≡ replicate count f.Open → equations ≡ [] → notes ≡ [] → Listed count (take 0 demands) (record { forms = forms; equations = equations; notes = notes })
listing_begins count demands forms equations notes forms_are equations_are notes_are =
    subst (λ x. Listed count [] (record { forms = x; equations = equations; notes = notes })) (sym forms_are)
    (subst (λ x. Listed count [] (record { forms = replicate count f.Open; equations = x; notes = notes })) (sym equations_are) (subst (λ x. Listed count [] (record { forms = replicate count f.Open; equations = []; notes = x })) (sym notes_are) (none_listed count)))

pub listing_goes : (count : ℕ) (demands : List Demand) (i : ℕ) (x : Demand) (old new : Table) → AllByRecursion (Knows count) demands → slice_get demands i ≡ Some x → Listed count (take i demands) old → Puts old new (is_met x) → Listed count (take (i + 1) demands) new
listing_goes count demands i x old new knows there l p =
    subst (λ z. Listed count z new) (sym (take_one demands i x there)) (more_listed count (take i demands) x old new (all_at (Knows count) demands i x knows there) l p)

pub listing_ends : (count : ℕ) (demands : List Demand) (i : ℕ) (table : Table) → length demands ≤ i → Listed count (take i demands) table → Listed count demands table
listing_ends count demands i table past l = subst (λ z. Listed count z table) (take_past demands i past) l

-- the same, as code finds it
module _ (count : ℕ) (demands : List (Bor Demand)) (i : ℕ) (item : Bor Demand) (item_is : item ≡ get_or demands i item) (inside : i < length demands) (knows : AllByRecursion (Knows count) (map (λ (x : Bor Demand). x.now) demands)) (old : Table) (l : Listed count (take i (map (λ (x : Bor Demand). x.now) demands)) old) where
  demand_there : slice_get (map (λ (x : Bor Demand). x.now) demands) i ≡ Some item.now
  demand_there = get_map (λ (x : Bor Demand). x.now) demands i item (read_at demands i item item inside item_is)

  pub next_known : Knows (length old.forms) item.now
  next_known = knows_more count (length old.forms) item.now l.counts (all_at (Knows count) (map (λ (x : Bor Demand). x.now) demands) i item.now knows demand_there)

  pub next_listed : (new : Table) → Puts old new (is_met item.now) → Listed count (take (i + 1) (map (λ (x : Bor Demand). x.now) demands)) new
  next_listed new p = listing_goes count (map (λ (x : Bor Demand). x.now) demands) i item.now old new knows demand_there l p

pub all_listed : (count : ℕ) (demands : List (Bor Demand)) (i : ℕ) (table : Table) → length demands ≤ i → Listed count (take i (map (λ (x : Bor Demand). x.now) demands)) table → Listed count (map (λ (x : Bor Demand). x.now) demands) table
all_listed count demands i table past l = listing_ends count (map (λ (x : Bor Demand). x.now) demands) i table (omega (arith, length-map demands (λ (x : Bor Demand). x.now), past)) l
