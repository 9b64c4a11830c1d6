-- The pair's columns take the first two places, are turned there, and go back.
use Rattle.jacobi.proofs.pairs.turn_columns.Goals as goal

pub returns-in-P12 : goal.returns-in-P12
returns-in-P12 c = rw c.in-P12.is c.turn12.ensures

pub returns-in-P13 : goal.returns-in-P13
returns-in-P13 c = rw (c.in-P13.is, c.swap23-in-P13.ensures, c.turn12-in-P13.ensures, c.swap23.ensures)

pub returns-in-P23 : goal.returns-in-P23
returns-in-P23 c =
    rw (c.in-P23.is, c.swap12-in-P23.ensures, c.swap23-in-P23-2.ensures, c.turn12-in-P23.ensures, c.swap23-in-P23.ensures, c.swap12.ensures)
