-- What the words ask for that a program is called with, behind its own.
--
--   Asks ws r     no word asks for the input, '--help' alone for help, another word alone for the file of that name; more words are too many
use Rattle.std.specs.Prelude.{◌≡◌, ◌≢◌, List, [], ◌∷◌, Ok, Err, Result, String, string_bytes, codes}
use Rattle.std.specs.declared.alloc.Global.{Global}
use Rattle.program.specs.declared.words.Wish.{Wish}
use Rattle.program.specs.declared.words.Wish.TheVariants.{Help, File, Input}
use Rattle.program.specs.declared.words.WordsError.{WordsError}
use Rattle.program.specs.declared.words.WordsError.TheVariants.{ManyFiles}

abbrev pub AsksOne : String Global → Result Wish WordsError → Type 0
AsksOne w (Ok Help) = string_bytes w ≡ codes "--help"
AsksOne w (Ok (File path)) = (string_bytes w ≢ codes "--help") × (path ≡ w)
AsksOne w (Ok Input) = ⊥
AsksOne w (Err e) = ⊥

abbrev pub Asks : List (String Global) → Result Wish WordsError → Type 0
Asks [] r = r ≡ Ok Input
Asks (w ∷ []) r = AsksOne w r
Asks (w ∷ v ∷ ws) r = r ≡ Err ManyFiles
