-- Sinks and files in memory.
use Rattle.std.specs.Prelude.{◌≡◌, ℕ, Bool, ◌||◌, ◌&&◌, ◌==◌, not, if◌then◌else◌, List, [], ◌∷◌, ◌++◌, length, Option, Some, None, is_some}
use Rattle.std.specs.Str.{bytes_eq}
use Rattle.da_outside.specs.declared.memory.MemFile.{MemFile}
use Rattle.da_outside.specs.declared.memory.MemFiles.{MemFiles}
use Rattle.da_outside.specs.declared.memory.MemSink.{MemSink}
use Rattle.da_outside.specs.declared.script.Script.{Script}
use Rattle.da_outside.specs.Script.{is_named}

-- the files, and when their reads fail
abbrev pub files_of : MemFiles → List MemFile
files_of files = files.files

abbrev pub reads_of : MemFiles → Script
reads_of files = files.script

-- the last file has this name and these bytes
abbrev pub IsFileAdded : List MemFile → List MemFile → List ℕ → List ℕ → Type 0
IsFileAdded old new name bytes = new ≡ old ++ record { name = name; bytes = bytes } ∷ []

-- the bytes of the first file of this name
abbrev pub bytes_named : List MemFile → List ℕ → Option (List ℕ)
bytes_named [] name = None
bytes_named (file ∷ files) name = if bytes_eq file.name name then Some file.bytes else bytes_named files name

-- whether the read that comes next fails: the script names it, or there is no file of this name
abbrev pub read_fails : MemFiles → List ℕ → Bool
read_fails files name = is_named files.script || not (is_some (bytes_named files.files name))

-- the bytes that a sink has taken, how many it takes at most in a call, and when its writes fail
abbrev pub bytes_of : MemSink → List ℕ
bytes_of sink = sink.taken

abbrev pub most_of : MemSink → ℕ
most_of sink = sink.most

abbrev pub writes_of : MemSink → Script
writes_of sink = sink.script

-- whether the write that comes next fails: the script names it, or the sink takes no byte in any call and there are some
abbrev pub write_fails : MemSink → List ℕ → Bool
write_fails sink bytes = is_named sink.script || ((sink.most == 0) && not (length bytes == 0))
