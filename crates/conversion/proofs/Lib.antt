mod RowTurns
mod Written
mod Tests
