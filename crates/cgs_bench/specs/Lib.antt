pub mod RegularTree
