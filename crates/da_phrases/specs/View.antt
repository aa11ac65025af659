-- What contracts see of a cursor.
use Rattle.std.specs.Prelude.{List}
use Rattle.da_values.specs.Marks.{Tok, toks}
use Rattle.da_phrases.specs.declared.cursor.Cursor.TheInside.{Inside}

abbrev pub shown : Inside → List Tok
shown c = toks c.text.now c.left.now
