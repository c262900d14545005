-- What contracts see of what stands behind the lock: the board, and the total of the book.
use Rattle.std.specs.Prelude.{◌≡◌, ℕ, ◌+◌}
use Rattle.cgs_board.specs.BoardState.{BoardState}
use Rattle.cgs_board.specs.declared.board.Given.{Given}
use Rattle.cgs_board.specs.declared.board.Given.TheVariants.{Kept, Stray, NoMemory}

pub record SharedState (J : Type 0) : Type 0 where
  pub board : BoardState J
  pub total : ℕ

-- a number is one more where the board keeps what is given, and else the same
abbrev pub IsCounted : {J E : Type 0} {job : _} → Given J E job → ℕ → ℕ → Type 0
IsCounted Kept old new = new ≡ old + 1
IsCounted (Stray done) old new = new ≡ old
IsCounted (NoMemory done) old new = new ≡ old
