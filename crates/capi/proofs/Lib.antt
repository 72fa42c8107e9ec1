pub mod NeverSix
