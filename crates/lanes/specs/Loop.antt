-- What the desk over a reader and a writer comes to, as far as a contract can say it.
-- Assumes nothing.
use Rattle.std.specs.Prelude.{ℕ, ◌≡◌, false, List, Option, IfSome}
use Rattle.std.specs.Io.KnownBytes.{Appends}
use Rattle.lanes.specs.declared.Turned.{Turned}
use Rattle.lanes.specs.Desk.{desk_words, desk_of, fresh_desk, turned_in, Turns}

-- turns of a fresh desk lead from the bytes that the loop is lent to what it leaves in the words and bytes. If the last of them says that
-- there is no more to do, they send what the desk writes for the whole input. That the input is what the reader had left, and that what
-- the turns send goes out, is what `AllServed` says.
pub record Ran (bytes answers ws' bytes' answers' : List ℕ) : Type 0 where
  pub input : List ℕ
  pub out : List ℕ
  pub turned : Turned
  pub turns : Turns (record { desk = fresh_desk; words = desk_words; bytes = bytes; answers = answers }) input out
      (turned_in turned ws' bytes' answers')
  pub writes : turned.more ≡ false → out ≡ desk_of input

-- the writer has taken what the desk writes for all that the reader had left. Both say what bytes those are, or claim nothing, as a
-- system's files do.
abbrev pub AllServed : Option (List ℕ) → Option (List ℕ) → Option (List ℕ) → Type 0
AllServed reads writes writes' = IfSome reads (λ input. Appends writes writes' (desk_of input))
