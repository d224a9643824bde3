-- Worked examples on which premises are met: the client of the whole schedule, two sessions in a line, and a server that
-- departs from the model.
pub mod Met
pub mod Rising
pub mod Departure_example
