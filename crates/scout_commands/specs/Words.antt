-- What the words ask for.
use Rattle.std.specs.Prelude.{◌≡◌, ℕ, ◌+◌, ◌<◌, ◌≤◌, ◌^◌, List, [], ◌∷◌, codes, decimal, map, Option, None, Some}
use Rattle.std.specs.String.{string_bytes}
use Rattle.da_values.specs.declared.val.Val.{Val}
use Rattle.da_values.specs.declared.value.Value.{Value}
use Rattle.da_values.specs.Reading.{IsTextOf}
use Rattle.da_values.specs.Value.{val_of}
use Rattle.schedule_hunt.specs.declared.what.What.{What}
use Rattle.schedule_hunt.specs.declared.what.What.TheVariants.{Fault, Stuck, Overlap, Differ, More}
use Rattle.scout_commands.specs.declared.options.Options.{Options}
use Rattle.scout_commands.specs.declared.words.Aim.{Aim}
use Rattle.scout_commands.specs.declared.words.Aim.TheVariants.{Shown, Watched}
use Rattle.scout_commands.specs.declared.words.Aimed.{Aimed}
use Rattle.scout_commands.specs.declared.words.Command.{Command}
use Rattle.scout_commands.specs.declared.words.Command.TheVariants as command
use Rattle.scout_commands.specs.declared.words.Question.{Question}
use Rattle.scout_commands.specs.declared.words.Question.TheVariants.{Next, Show}
use Rattle.scout_commands.specs.declared.words.Search.{Search}
use Rattle.scout_commands.specs.declared.words.Search.TheVariants.{Walk, Hunt}
use Rattle.scout_commands.specs.declared.words.Sort.{Sort}
use Rattle.scout_commands.specs.declared.words.Sort.TheVariants as sort_is
use Rattle.scout_commands.specs.declared.words.Sought.{Sought}
use Rattle.scout_commands.specs.Options.{AreOptions, setting_of}

-- the words begin with what a schedule is to show, and behind it stand the others
abbrev pub BeginsWithWhat : List (List ℕ) → What → List (List ℕ) → Type 0
BeginsWithWhat words Fault others = words ≡ codes "fault" ∷ others
BeginsWithWhat words Stuck others = words ≡ codes "stuck" ∷ others
BeginsWithWhat words (Overlap enter leave) others =
    (a : List ℕ) × (b : List ℕ) × (words ≡ codes "overlap" ∷ a ∷ b ∷ others) × IsTextOf a (val_of enter) × IsTextOf b (val_of leave)
BeginsWithWhat words Differ others = words ≡ codes "differ" ∷ others
BeginsWithWhat words (More most) others = (words ≡ codes "more" ∷ decimal most ∷ others) × (most ≤ 1000000000)

-- or with that the watch of this name is to say something
abbrev pub AimsAt : List (List ℕ) → Aim → List (List ℕ) → Type 0
AimsAt words (Shown what) others = BeginsWithWhat words what others
AimsAt words (Watched watch) others = words ≡ codes "watch" ∷ watch.now ∷ others

-- and behind it stand the options
abbrev pub Seeks : List (List ℕ) → Aim → Options → Type 0
Seeks words aim options = (others : List (List ℕ)) × AimsAt words aim others × AreOptions others options

-- SEARCHES

-- the number that a generated schedule begins with, and the most events of it
abbrev pub IsGenerated : ℕ → ℕ → Type 0
IsGenerated start most = (start < 2 ^ 48) × (1 ≤ most) × (most ≤ 1000000)

-- the words ask for this search over the program of this name
abbrev pub IsSearch : List (List ℕ) → Search → List ℕ → Type 0
IsSearch words (Walk start most) program = (words ≡ codes "walk" ∷ program ∷ decimal start ∷ decimal most ∷ []) × IsGenerated start most
IsSearch words (Hunt trials aim options) program =
    (asked : List (List ℕ)) × (words ≡ codes "hunt" ∷ program ∷ decimal trials.start ∷ decimal trials.count ∷ decimal trials.most ∷ asked)
    × IsGenerated trials.start trials.most × ((1 ≤ trials.count) × (trials.count ≤ 1000000)) × Seeks asked aim options
    × (trials.setting ≡ setting_of options)

-- they ask which events are allowed after a schedule, or for the page of its run; to run a schedule beside a watch; and to draw a trace
abbrev pub IsFollow : List (List ℕ) → Question → List ℕ → List ℕ → Type 0
IsFollow words Next program schedule = words ≡ codes "next" ∷ program ∷ schedule ∷ []
IsFollow words Show program schedule = words ≡ codes "show" ∷ program ∷ schedule ∷ []

abbrev pub IsWatch : List (List ℕ) → List ℕ → List ℕ → List ℕ → Type 0
IsWatch words watch program schedule = words ≡ codes "watch" ∷ watch ∷ program ∷ schedule ∷ []

abbrev pub IsDraw : List (List ℕ) → List ℕ → Type 0
IsDraw words trace = words ≡ codes "draw" ∷ trace ∷ []

-- they ask for nothing that is known
pub record IsOther (words : List (List ℕ)) : Type 0 where
  pub search : (search : Search) (program : List ℕ) → IsSearch words search program → ⊥
  pub follow : (question : Question) (program schedule : List ℕ) → IsFollow words question program schedule → ⊥
  pub watch : (watch program schedule : List ℕ) → IsWatch words watch program schedule → ⊥
  pub draw : (trace : List ℕ) → IsDraw words trace → ⊥

abbrev pub IsAsked : List (List ℕ) → Command → Type 0
IsAsked words (command.Search search program) = IsSearch words search program.now
IsAsked words (command.Follow question names) = IsFollow words question names.program.now names.schedule.now
IsAsked words (command.Watch watch names) = IsWatch words watch.now names.program.now names.schedule.now
IsAsked words (command.Draw trace) = IsDraw words trace.now
IsAsked words command.Other = IsOther words

-- what is found in some words where it may be in none: it is asked for, or nothing of its kind is
abbrev pub FindsValue : List ℕ → Option Value → Type 0
FindsValue word None = (x : Val) → IsTextOf word x → ⊥
FindsValue word (Some value) = IsTextOf word (val_of value)

-- the word that begins what is looked for
abbrev pub name_of_sort : Sort → List ℕ
name_of_sort sort_is.Fault = codes "fault"
name_of_sort sort_is.Stuck = codes "stuck"
name_of_sort sort_is.Differ = codes "differ"
name_of_sort sort_is.Overlap = codes "overlap"
name_of_sort sort_is.More = codes "more"
name_of_sort sort_is.Watch = codes "watch"

abbrev pub FindsSort : List ℕ → Option Sort → Type 0
FindsSort word None = (sort : Sort) → word ≡ name_of_sort sort → ⊥
FindsSort word (Some sort) = word ≡ name_of_sort sort

-- what stands first in some words, and the words behind it; or nothing of its kind does
abbrev pub NoAim : List (List ℕ) → Type 0
NoAim words = (aim : Aim) (others : List (List ℕ)) → AimsAt words aim others → ⊥

abbrev pub FindsAim : List (List ℕ) → Option Aimed → Type 0
FindsAim words None = NoAim words
FindsAim words (Some aimed) = AimsAt words aimed.aim (map string_bytes aimed.others.now)

abbrev pub FindsSought : List (List ℕ) → Option Sought → Type 0
FindsSought words None = (aim : Aim) (options : Options) → Seeks words aim options → ⊥
FindsSought words (Some sought) = Seeks words sought.aim sought.options

-- the numbers from which the schedules of a search are generated are numbers of 64 bits
abbrev pub HasNumbers : Search → Type 0
HasNumbers (Walk start most) = Unit {0}
HasNumbers (Hunt trials aim options) = trials.start + trials.count < 2 ^ 64
