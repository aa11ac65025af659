-- What holds no parameter is read alike whether parameters may lack their types or not.
use Rattle.std.proofs.Common.{◌≡◌, ℕ, Bool, false, List, refl}
use Rattle.da_values.specs.Marks.{Tok}
use Rattle.da_parse.specs.Members.{parts_at, variable, run, sender, handler}
use Rattle.da_parse.specs.Programs.{outermost, header_end, message, new_line, setup_line, main_line, main}

module _ (loose : Bool) (d at : ℕ) (i : List Tok) where
  pub variable_same : variable (parts_at loose d) at i ≡ variable (parts_at false d) at i
  unfolding variable
  variable_same = refl

  pub run_same : run (parts_at loose d) at i ≡ run (parts_at false d) at i
  unfolding run
  run_same = refl

  pub handler_same : handler (parts_at loose d) at i ≡ handler (parts_at false d) at i
  unfolding handler sender
  handler_same = refl

module _ (loose : Bool) (i : List Tok) where
  pub header_end_same : header_end (outermost loose) i ≡ header_end (outermost false) i
  unfolding header_end
  header_end_same = refl

  pub main_same : main (outermost loose) i ≡ main (outermost false) i
  unfolding main header_end main_line new_line setup_line
  main_same = refl

pub message_same : (loose : Bool) (at : ℕ) (i : List Tok) → message (outermost loose) at i ≡ message (outermost false) at i
unfolding message
message_same loose at i = refl

pub ruleset same_members = (variable_same, handler_same)
