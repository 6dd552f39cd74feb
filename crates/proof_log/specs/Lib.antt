-- What public contracts say: derivations, logs and what they show, the texts of lines, and worked rows.
pub mod Known
pub mod Derivations
pub mod Resolution
pub mod Usefulness
pub mod Lines
pub mod Logs
pub mod Certificates
pub mod Texts
pub mod Readings
pub mod Marks
pub mod Worked
-- Inside: the numbers of a line.
pub mod Fields
