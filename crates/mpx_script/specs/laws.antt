-- What contracts of the program's own steps say, and the table says too: nobody needs to read it.
pub mod Parts
