pub mod HonestPiles
